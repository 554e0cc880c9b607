-- The end of an operation, by its operand's type.
use Rattle.std.specs.Prelude.{ℕ, ◌+◌, cond, ◌∷◌}
use Rattle.std.proofs.Math.Option.{Option}
use Rattle.rules.specs.Syntax.{ResolvedType, run}
use Rattle.rules.specs.Types.{BOOL}
use Rattle.rules.specs.Refusal.{Result, ensure, ◌>>=◌, with_detail}
use Rattle.rules.specs.Infer.{PortableExpr, PortableExprKind, FunctionContext, is_arithmetic, operand_allowed, unary_allowed, ended}

-- a binary's, once both operands are typed
unfoldable pub binary_end : FunctionContext → ℕ → Option ResolvedType → ℕ → ResolvedType → PortableExprKind → Result PortableExpr
binary_end c op expected context t k = do
  _ ← ensure (operand_allowed op t) (with_detail 21 c.function (op ∷ run t))
  ended c expected context (cond (is_arithmetic op) t BOOL) k

-- a unary's
unfoldable pub unary_end : FunctionContext → ℕ → Option ResolvedType → ℕ → ResolvedType → PortableExprKind → Result PortableExpr
unary_end c op expected context t k = do
  _ ← ensure (unary_allowed op t) (with_detail 21 c.function ((10 + op) ∷ run t))
  ended c expected context t k
