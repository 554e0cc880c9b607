-- A type expression as the pool holds it.
use Rattle.std.specs.Prelude.{ℕ, ◌≤◌, length}
use Rattle.rules.specs.Syntax.{TypeExpr, expr_run}
use Rattle.rules.specs.Good.{GoodExpr}

-- an expression as the pool holds it
pub record StoredExpr (names : ℕ) (e : TypeExpr) : Type 0 where
  pub good : GoodExpr names e
  pub short : length (expr_run e) ≤ 64
