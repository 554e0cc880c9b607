-- The first word of a type tells its shape.
use Prim.Native.Nat.{ℕ, ◌<◌}
use mathlib.Core.Path.{◌≡◌, refl, ap, ◌∙◌}
use mathlib.Core.List.{List}
use lib.ListN.{length, get_or}
use Rattle.rules.specs.Syntax.{ResolvedType, TypeExpr, run, expr_run}
use Rattle.rules.specs.Kinds.{type_kind}
use Rattle.rules.specs.Good.{Good, GoodExpr}
use Rattle.image_words.specs.Stands.{Stands}
use Rattle.image_words.proofs.Heads.{head, inside}
use Rattle.pool_types.proofs.TypeAt.{shape}
use Rattle.pool_type_exprs.proofs.TypeExprAt.{expr_shape}

module _ (names : ℕ) {ws : List ℕ} {at n : ℕ} where
  pub type_head : (t : ResolvedType) → Good names t → Stands ws (run t) at n → type_kind (get_or ws at 0) ≡ shape t
  unfolding run
  type_head (ResolvedType.plain c) g s = ap type_kind (head s) ∙ g
  type_head (ResolvedType.sub b w) g s = ap type_kind (head s) ∙ (unfold type_kind in refl)
  type_head (ResolvedType.bits ns) g s = ap type_kind (head s) ∙ (unfold type_kind in refl)
  type_head (ResolvedType.named d) g s = ap type_kind (head s) ∙ (unfold type_kind in refl)
  type_head (ResolvedType.one c t) g s = ap type_kind (head s) ∙ g.0
  type_head (ResolvedType.fixed low high t) g s = ap type_kind (head s) ∙ (unfold type_kind in refl)
  type_head (ResolvedType.two c t u) g s = ap type_kind (head s) ∙ g.0

  pub expr_head : (e : TypeExpr) → GoodExpr names e → Stands ws (expr_run e) at n → type_kind (get_or ws at 0) ≡ expr_shape e
  unfolding expr_run
  expr_head (TypeExpr.leaf t) g s = type_head t g.1 s
  expr_head (TypeExpr.named x) g s = ap type_kind (head s) ∙ (unfold type_kind in refl)
  expr_head (TypeExpr.qualified q x) g s = ap type_kind (head s) ∙ (unfold type_kind in refl)
  expr_head (TypeExpr.generic x a) g s = ap type_kind (head s) ∙ (unfold type_kind in refl)
  expr_head (TypeExpr.one c a) g s = ap type_kind (head s) ∙ g.0
  expr_head (TypeExpr.fixed low high a) g s = ap type_kind (head s) ∙ (unfold type_kind in refl)
  expr_head (TypeExpr.two c a b) g s = ap type_kind (head s) ∙ g.0

-- a run is never empty
pub expr_inside : {ws : List ℕ} {at n : ℕ} (e : TypeExpr) → Stands ws (expr_run e) at n → at < length ws
unfolding expr_run run
expr_inside (TypeExpr.leaf (ResolvedType.plain c)) s = inside s
expr_inside (TypeExpr.leaf (ResolvedType.sub b w)) s = inside s
expr_inside (TypeExpr.leaf (ResolvedType.bits ns)) s = inside s
expr_inside (TypeExpr.leaf (ResolvedType.named d)) s = inside s
expr_inside (TypeExpr.leaf (ResolvedType.one c t)) s = inside s
expr_inside (TypeExpr.leaf (ResolvedType.fixed low high t)) s = inside s
expr_inside (TypeExpr.leaf (ResolvedType.two c t u)) s = inside s
expr_inside (TypeExpr.named x) s = inside s
expr_inside (TypeExpr.qualified q x) s = inside s
expr_inside (TypeExpr.generic x a) s = inside s
expr_inside (TypeExpr.one c a) s = inside s
expr_inside (TypeExpr.fixed low high a) s = inside s
expr_inside (TypeExpr.two c a b) s = inside s
