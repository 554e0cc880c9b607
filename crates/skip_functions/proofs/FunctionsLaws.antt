-- A function's parts, from the places that the code has.
use Prim.Native.Nat.{ℕ, ◌+◌, ◌<◌}
use mathlib.Core.Path.{◌≡◌, sym, subst, ◌∙◌}
use mathlib.Core.List.{List, [], ◌∷◌}
use mathlib.Core.Option.{Option}
use native.Mathlib.Omega.{arith}
use lib.ListN.{length, get_or}
use Rattle.rules.specs.Syntax.{ResolvedType, TypeExpr, Param, TraitReturn}
use Rattle.image_words.specs.Gives.{Row, Counted, MaybeAt}
use Rattle.pool_types.specs.TypeAt.{TypeStands}
use Rattle.pool_types.specs.ParamAt.{ParamAt}
use Rattle.pool_type_exprs.specs.TypeExprAt.{TypeExprAt, TypeExprStands}
use Rattle.pool_traits.specs.TraitAt.{TraitReturnAt}
use Rattle.skip_types.specs.Pending.{Pending}
use Rattle.skip_types.proofs.Pending.{none_left, more_left, numbered}

module _ (names : ℕ) (ws : List ℕ) where
  -- parameters of resolved types or of type expressions are names with type expressions
  params_left : {A : Type 0} (Q : A → ℕ → ℕ → Type 0) (f : A → TypeExpr) → ((a : A) (at n : ℕ) → Q a at n → TypeExprAt names ws (f a) at n)
      → (ps : List (Param A)) (at n : ℕ) → Row (ParamAt names ws Q) ps at n → Pending (ParamAt names ws (TypeExprAt names ws)) (length ps) at n
  params_left Q f g [] at n r = none_left (sym r)
  params_left Q f g (p ∷ ps) at n r =
      more_left (record { name = p.name; ty = f p.ty }) r.0
      (record { name_at = r.1.name_at; name_below = r.1.name_below; type_at = g p.ty (at + 1) r.0 r.1.type_at })
      (params_left Q f g ps r.0 n r.2)

  module _ {most at n : ℕ} (count : ℕ) (e : count ≡ get_or ws at 0) where
    pub resolved_left : (ps : List (Param ResolvedType)) → Counted ws most (ParamAt names ws (TypeStands names ws)) ps at n → Pending (ParamAt names ws (TypeExprAt names ws)) count (at + 1) n
    resolved_left ps h = numbered count (e ∙ h.0.is) (params_left (TypeStands names ws) TypeExpr.leaf (λ t i j q. q.parts) ps (at + 1) n h.2)

    pub expressions_left : (ps : List (Param TypeExpr)) → Counted ws most (ParamAt names ws (TypeExprStands names ws)) ps at n → Pending (ParamAt names ws (TypeExprAt names ws)) count (at + 1) n
    expressions_left ps h = numbered count (e ∙ h.0.is) (params_left (TypeExprStands names ws) (λ t. t) (λ t i j q. q.parts) ps (at + 1) n h.2)

  -- a trait function's return by its first word
  module _ (at n : ℕ) where
    pub return_inside : (t : TraitReturn) → TraitReturnAt names ws t at n → at < length ws
    return_inside TraitReturn.no_return h = h.0.inside
    return_inside (TraitReturn.resolved t) h = h.0.inside
    return_inside (TraitReturn.expression e) h = h.0.inside

    pub return_none : (t : TraitReturn) → TraitReturnAt names ws t at n → (w : ℕ) → w ≡ get_or ws at 0 → w ≡ 0 → at + 1 ≡ n
    return_none TraitReturn.no_return h w e z = sym h.1
    return_none (TraitReturn.resolved t) h w e z = absurd (omega (arith, h.0.is))
    return_none (TraitReturn.expression t) h w e z = absurd (omega (arith, h.0.is))

    pub return_some : (t : TraitReturn) → TraitReturnAt names ws t at n → (w : ℕ) → w ≡ get_or ws at 0 → (w ≡ 0 → ⊥) → (r : ℕ) → ((e : TypeExpr) → TypeExprAt names ws e (at + 1) n → r ≡ n) → r ≡ n
    return_some TraitReturn.no_return h w e z r f = absurd (omega (arith, h.0.is))
    return_some (TraitReturn.resolved t) h w e z r f = f (TypeExpr.leaf t) h.1.parts
    return_some (TraitReturn.expression t) h w e z r f = f t h.1.parts

  -- from the code's places, which are the same
  pub maybe_from : (o : Option ResolvedType) (n : ℕ) {i j : ℕ} → i ≡ j → MaybeAt ws (TypeStands names ws) o j n → MaybeAt ws (TypeStands names ws) o i n
  maybe_from o n q h = subst (λ (k : ℕ). MaybeAt ws (TypeStands names ws) o k n) (sym q) h

  pub return_from : (t : TraitReturn) (n : ℕ) {i j : ℕ} → i ≡ j → TraitReturnAt names ws t j n → TraitReturnAt names ws t i n
  return_from t n q h = subst (λ (k : ℕ). TraitReturnAt names ws t k n) (sym q) h
