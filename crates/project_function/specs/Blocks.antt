-- The statements that stand one behind the other from a place on.
use Rattle.std.specs.Prelude.{ℕ, ◌+◌, ◌≤◌, ◌≡◌, List, length}
use Rattle.rules.specs.Syntax.{Statement}
use Rattle.rules.specs.Infer.{FunctionContext}
use Rattle.rules.specs.ReadBodies.{lets}
use Rattle.image_words.specs.Gives.{Row}
use Rattle.image_layout.specs.declared.Layout.{Layout}
use Rattle.image_layout.specs.Open.{pool_words}
use Rattle.pool_bodies.specs.StatementAt.{StatementStands}
use Rattle.infer_context.specs.declared.Context.{Context}
use Rattle.infer_context.specs.InContext.{AtContext}

-- statements of the pool, from `at` up to n
abbrev pub Statements : Layout → List Statement → ℕ → ℕ → Type 0
Statements l = Row (StatementStands l.names.rows l.strings.rows (pool_words l))

-- a property of every context that x says and of whatever so many statements stand there, if each Let of them finds a row
abbrev pub AtBlock : Layout → List ℕ → List ℕ → List ℕ → Context → ℕ → ℕ → (FunctionContext → List Statement → ℕ → Type 0) → Type 0
AtBlock l names words lens x at count P =
    AtContext l names words lens x (λ c. (ss : List Statement) (n : ℕ) → Statements l ss at n → length ss ≡ count → x.count + lets ss ≤ 64 → P c ss n)
