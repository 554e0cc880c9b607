-- Laws: which type expression stands where among some words.
use Prim.Native.Nat.{ℕ, zero, suc, ◌+◌}
use mathlib.Core.Path.{◌≡◌, refl, ap}
use mathlib.Core.List.{List}
use lib.ListN.{get_or}
use Rattle.rules.specs.Syntax.{TypeExpr}
use Rattle.rules.specs.Kinds.{type_kind}
use Rattle.rules.specs.ReadTypes.{type_expr_node, type_expr_tree, type_expr}
use Rattle.rules.specs.declared.kinds.TypeKind.{TypeKind}
use Rattle.laws.proofs.TypeExprs.{type_expr_exact}
use Rattle.image_words.proofs.Gives.{Gives, then, given, failed, so_then, word_then, below_then, sized_gives}
use Rattle.image_words.proofs.Stands.{held_gives}
use Rattle.pool_types.specs.TypeAt.{Node}
use Rattle.pool_types.proofs.TypeAt.{wide_then, shape, shape_at, sub_gives, bits_gives}
use Rattle.pool_type_exprs.specs.TypeExprAt.{TypeExprAt, TypeExprStands}

-- the kind of a type expression's code
abbrev pub expr_shape : TypeExpr → TypeKind
expr_shape (TypeExpr.leaf t) = shape t
expr_shape (TypeExpr.named x) = TypeKind.Named
expr_shape (TypeExpr.qualified s x) = TypeKind.Qualified
expr_shape (TypeExpr.generic x a) = TypeKind.Generic
expr_shape (TypeExpr.one c t) = TypeKind.One
expr_shape (TypeExpr.fixed low high t) = TypeKind.Fixed
expr_shape (TypeExpr.two c t u) = TypeKind.Two

module _ (names : ℕ) (ws : List ℕ) where
  pub expr_shape_at : (e : TypeExpr) (at n : ℕ) → TypeExprAt names ws e at n → Node ws at (expr_shape e)
  expr_shape_at (TypeExpr.leaf t) at n h = shape_at names ws t at n h
  expr_shape_at (TypeExpr.named x) at n h = h.0
  expr_shape_at (TypeExpr.qualified s x) at n h = h.0
  expr_shape_at (TypeExpr.generic x a) at n h = h.0
  expr_shape_at (TypeExpr.one c t) at n h = h.0
  expr_shape_at (TypeExpr.fixed low high t) at n h = h.0
  expr_shape_at (TypeExpr.two c t u) at n h = h.0

  module _ (d : ℕ) (part : (at : ℕ) → Gives (type_expr_tree names d) ws at (λ e n. TypeExprAt names ws e at n)) (at : ℕ) where
    node_gives : (k : TypeKind) (c : ℕ) → Node ws at k → get_or ws at 0 ≡ c → Gives (type_expr_node names (type_expr_tree names d) k c) ws (at + 1) (λ e n. TypeExprAt names ws e at n)
    unfolding type_expr_node
    node_gives TypeKind.Plain c i e = given _ (i, e, refl)
    node_gives TypeKind.Sub c i e = then (sub_gives names ws at i) (λ t n a. given _ a)
    node_gives TypeKind.Bits c i e = then (bits_gives names ws at i) (λ t n a. given _ a)
    node_gives TypeKind.Named c i e = below_then (λ x j l. given _ (i, j, l, refl))
    node_gives TypeKind.Qualified c i e = below_then (λ s j l. below_then (λ x k m. given _ (i, j, l, k, m, refl)))
    node_gives TypeKind.Generic c i e = below_then (λ x j l. then (part (at + 1 + 1)) (λ t n a. given _ (i, j, l, a)))
    node_gives TypeKind.One c i e = then (part (at + 1)) (λ t n a. given _ (i, e, a))
    node_gives TypeKind.Fixed c i e = wide_then _ (λ low high w. then (part (at + 1 + 1 + 1)) (λ t n a. given _ (i, w, a)))
    node_gives TypeKind.Two c i e = then (part (at + 1)) (λ t m a. then (part m) (λ u n b. given _ (i, e, m, a, b)))
    node_gives TypeKind.Unknown c i e = failed

  pub expr_tree_gives : (d at : ℕ) → Gives (type_expr_tree names d) ws at (λ e n. TypeExprAt names ws e at n)
  unfolding type_expr_tree
  expr_tree_gives zero at = failed
  expr_tree_gives (suc d) at = word_then (λ w i. node_gives d (expr_tree_gives d) at (type_kind w) w (record { inside = i.inside; kind = ap type_kind i.is }) i.is)

  pub type_expr_gives : (at : ℕ) → Gives (type_expr names) ws at (λ e n. TypeExprStands names ws e at n)
  unfolding type_expr
  type_expr_gives at = held_gives (TypeExprAt names ws) (type_expr_exact names) ws at (so_then (sized_gives (expr_tree_gives 64 at)) (λ e n h. h.0))
