-- A trait function's parameters, by their first and the others. Assumes nothing.
use Prim.Native.Nat.{ℕ, ◌+◌}
use mathlib.Core.Path.{◌≡◌, refl, ap, ◌∙◌}
use mathlib.Core.List.{List, [], ◌∷◌}
use Rattle.rules.specs.Syntax.{ResolvedType, TypeExpr, CompiledSchema, Param}
use Rattle.rules.specs.Substitute.{Counted, too_large, done, after, substitute_type}
use Rattle.rules.specs.Signatures.{resolve_params}

module _ (schema : CompiledSchema) (ps : List (Param ResolvedType)) where
  pub resolve_none : resolve_params schema ps [] ≡ done 0 []
  unfolding resolve_params
  resolve_none = refl

  module _ (q : Param TypeExpr) (qs : List (Param TypeExpr)) where
    -- one made already, with its visits
    abbrev pub before : ℕ → ResolvedType → Counted (List (Param ResolvedType)) → Counted (List (Param ResolvedType))
    before v t m = after m λ w ts. done (v + w) (record { name = q.name; ty = t } ∷ ts)

    pub by_first : (o : Counted ResolvedType) → substitute_type schema ps q.ty ≡ o → resolve_params schema ps (q ∷ qs) ≡ after o λ v t. before v t (resolve_params schema ps qs)
    unfolding resolve_params
    by_first o e = ap (λ (k : Counted ResolvedType). after k λ v t. before v t (resolve_params schema ps qs)) e

    pub first_large : substitute_type schema ps q.ty ≡ too_large → resolve_params schema ps (q ∷ qs) ≡ too_large
    unfolding after
    first_large e = by_first too_large e

    pub first_done : {v : ℕ} {t : ResolvedType} → substitute_type schema ps q.ty ≡ done v t → resolve_params schema ps (q ∷ qs) ≡ before v t (resolve_params schema ps qs)
    unfolding after
    first_done {v} {t} e = by_first (done v t) e

    pub others_large : {v : ℕ} {t : ResolvedType} → substitute_type schema ps q.ty ≡ done v t → resolve_params schema ps qs ≡ too_large → resolve_params schema ps (q ∷ qs) ≡ too_large
    unfolding after
    others_large {v} {t} e f = first_done e ∙ ap (before v t) f

    pub both_done : {v w : ℕ} {t : ResolvedType} {ts : List (Param ResolvedType)} → substitute_type schema ps q.ty ≡ done v t → resolve_params schema ps qs ≡ done w ts
        → resolve_params schema ps (q ∷ qs) ≡ done (v + w) (record { name = q.name; ty = t } ∷ ts)
    unfolding after
    both_done {v} {w} {t} {ts} e f = first_done e ∙ ap (before v t) f
