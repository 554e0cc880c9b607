-- How deep trees of types are: what a reader's fuel is compared with.
use Prim.Native.Nat.{ℕ, suc, max}
use Rattle.rules.specs.Syntax.{ResolvedType, TypeExpr}

-- a leaf is 1
abbrev pub depth : ResolvedType → ℕ
depth (ResolvedType.plain c) = 1
depth (ResolvedType.sub s n) = 1
depth (ResolvedType.bits ns) = 1
depth (ResolvedType.named n) = 1
depth (ResolvedType.one c t) = suc (depth t)
depth (ResolvedType.fixed low high t) = suc (depth t)
depth (ResolvedType.two c t u) = suc (max (depth t) (depth u))

abbrev pub depth_expr : TypeExpr → ℕ
depth_expr (TypeExpr.leaf t) = 1
depth_expr (TypeExpr.named x) = 1
depth_expr (TypeExpr.qualified s x) = 1
depth_expr (TypeExpr.generic x a) = suc (depth_expr a)
depth_expr (TypeExpr.one c t) = suc (depth_expr t)
depth_expr (TypeExpr.fixed low high t) = suc (depth_expr t)
depth_expr (TypeExpr.two c t u) = suc (max (depth_expr t) (depth_expr u))
