-- Which expression stands at a place of the pool.
use Rattle.std.specs.Prelude.{ℕ, List}
use Rattle.rules.specs.Syntax.{Expr}
use Rattle.laws.specs.Runs.{expr_words, Nested}
use Rattle.image_words.specs.Stands.{Stands}
use Rattle.image_layout.specs.declared.Layout.{Layout}
use Rattle.image_layout.specs.Open.{pool_words}

-- over the numbers of name rows and string rows and the words: a good expression, nested at most so deep, whose words stand at `at` and end before n
pub record Stood (names strings : ℕ) (ws : List ℕ) (nest : ℕ) (e : Expr) (at n : ℕ) : Type 0 where
  pub words_at : Stands ws (expr_words e) at n
  pub nested : Nested names strings nest e

-- a property of whatever expression stands there
abbrev pub AtExpr : Layout → ℕ → ℕ → (Expr → ℕ → Type 0) → Type 0
AtExpr l nest at P = (e : Expr) (n : ℕ) → Stood l.names.rows l.strings.rows (pool_words l) nest e at n → P e n
