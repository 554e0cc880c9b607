-- Places: an expression that has its type by itself, or a refusal with its name.
use Rattle.std.specs.Prelude.{ℕ}
use Rattle.std.proofs.Math.Option.{Option}
use Rattle.rules.specs.Syntax.{ResolvedType}
use Rattle.rules.specs.Refusal.{Result, ◌>>=◌, or_refuse, with_name}
use Rattle.rules.specs.Infer.{PortableExpr, PortableExprKind, FunctionContext, ended}

-- by the type that the expression has by itself
unfoldable pub placed : FunctionContext → ℕ → ℕ → Option ResolvedType → Option ResolvedType → ℕ → PortableExprKind → Result PortableExpr
placed c number x hint expected context k = do
  t ← or_refuse hint (with_name number c.function x)
  ended c expected context t k
