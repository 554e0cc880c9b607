-- The arms, by the code that stands there.
use Prim.Native.Nat.{ℕ}
use mathlib.Core.Path.{◌≡◌}
use mathlib.Core.List.{List}
use mathlib.Core.Option.{Option}
use lib.ListN.{get_or}
use Rattle.rules.specs.Syntax.{ResolvedType, Expr}
use Rattle.rules.specs.Kinds.{expr_kind}
use Rattle.rules.specs.Infer.{FunctionContext}
use Rattle.rules.specs.declared.kinds.ExprKind.{ExprKind}
use Rattle.infer_context.proofs.Nodes.{by_code}
use Rattle.infer_result.specs.declared.inferred.Inferred.{Inferred}
use Rattle.infer_leaves.proofs.Leaves.{Came}

module _ {names strings : ℕ} {ws : List ℕ} {nest at n : ℕ} (c : FunctionContext) (o : Option ResolvedType) (context : ℕ) (r : Inferred) where
  pub of_binary : expr_kind (get_or ws at 0) ≡ ExprKind.Binary → ((op : ℕ) (d e : Expr) → Came names strings ws nest at n c o context r (Expr.binary op d e)) → (e : Expr) → Came names strings ws nest at n c o context r e
  of_binary q h e s = by_code (Came names strings ws nest at n c o context r) q h e s s

  pub of_unary : expr_kind (get_or ws at 0) ≡ ExprKind.Unary → ((op : ℕ) (e : Expr) → Came names strings ws nest at n c o context r (Expr.unary op e)) → (e : Expr) → Came names strings ws nest at n c o context r e
  of_unary q h e s = by_code (Came names strings ws nest at n c o context r) q h e s s
