-- What stands among some words: a type expression as they hold it, and a type copied out of them.
use Rattle.std.specs.Prelude.{ℕ, ◌≡◌, List}
use Rattle.rules.specs.Syntax.{ResolvedType, TypeExpr, run, expr_run}
use Rattle.rules.specs.Good.{Stored}
use Rattle.laws.specs.TypeExprs.{StoredExpr}
use Rattle.image_words.specs.Stands.{Stands}
use Rattle.type_words.specs.Holds.{Holds}
use Rattle.type_from_pool.specs.declared.Held.{Held}

-- over the number of name rows and the words: r holds whatever type stands at `at`, and says where it ends
abbrev pub Types : ℕ → List ℕ → ℕ → Held → Type 0
Types names ws at r = (t : ResolvedType) (n : ℕ) → Stands ws (run t) at n → Stored names t → Holds names r.ty t × (r.next ≡ n)

-- a type expression's run from `at` up to n, good and at most 64 words long
pub record ExprStands (names : ℕ) (ws : List ℕ) (e : TypeExpr) (at n : ℕ) : Type 0 where
  pub run_at : Stands ws (expr_run e) at n
  pub stored : StoredExpr names e
