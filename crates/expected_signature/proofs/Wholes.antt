-- A return's words and a whole signature. Assumes nothing.
use Prim.Native.Nat.{ℕ, ◌+◌}
use mathlib.Core.Path.{◌≡◌, refl, sym, ap, ap₂, ◌∙◌}
use mathlib.Core.Bool.{Bool, true, false}
use mathlib.Core.List.{List, [], ◌∷◌}
use mathlib.Core.Option.{Option, none, some}
use Rattle.rules.specs.Syntax.{ResolvedType, TypeExpr, TraitFnDef, CompiledSchema, Param}
use Rattle.rules.specs.Types.{contains_poison, return_words, normalize_return}
use Rattle.rules.specs.Substitute.{Counted, too_large, done, after, substitute_type}
use Rattle.rules.specs.Signatures.{poisoned_return, resolve_params, resolve_return, resolve_signature}
use Rattle.image_words.proofs.Steps.{true_false}
use Rattle.type_words.specs.declared.MaybeType.{MaybeType}
use Rattle.type_words.specs.Runs.{held_run}
use Rattle.type_words.specs.Holds.{MaybeHolds, Each}
use Rattle.expected_signature.specs.Parts.{under, resolve_param}

-- a parameter's words
pub param_is : {w x : ℕ} {h t : List ℕ} → w ≡ x → h ≡ t → (w ∷ h) ≡ x ∷ t
param_is e f = ap₂ ◌∷◌ e f

-- a return that is none, and one that is some
module _ (names : ℕ) (m : MaybeType) where
  pub none_words : (o : Option ResolvedType) → MaybeHolds names m o → m.some ≡ false → (0 ∷ []) ≡ return_words o
  unfolding return_words
  none_words none h e = refl
  none_words (some t) h e = absurd (true_false (sym h.0 ∙ e))

  pub none_clean : (o : Option ResolvedType) → MaybeHolds names m o → m.some ≡ false → false ≡ poisoned_return o
  unfolding poisoned_return
  none_clean none h e = refl
  none_clean (some t) h e = absurd (true_false (sym h.0 ∙ e))

  pub some_words : (o : Option ResolvedType) → MaybeHolds names m o → m.some ≡ true → (1 ∷ held_run m.ty) ≡ return_words o
  unfolding return_words
  some_words none h e = absurd (true_false (sym e ∙ h))
  some_words (some t) h e = ap (λ (l : List ℕ). 1 ∷ l) h.1.run

  pub some_clean : (o : Option ResolvedType) → MaybeHolds names m o → m.some ≡ true → {b : Bool} → Each m.ty (λ t. b ≡ contains_poison t) → b ≡ poisoned_return o
  unfolding poisoned_return
  some_clean none h e p = absurd (true_false (sym e ∙ h))
  some_clean (some t) h e p = p names t h.1

module _ (schema : CompiledSchema) (ps : List (Param ResolvedType)) where
  -- a parameter by its type
  pub param_large : (p : Param TypeExpr) → substitute_type schema ps p.ty ≡ too_large → resolve_param schema ps p ≡ too_large
  unfolding resolve_param after
  param_large p e = ap (under p.name) e

  pub param_done : (p : Param TypeExpr) {v : ℕ} {t : ResolvedType} → substitute_type schema ps p.ty ≡ done v t → resolve_param schema ps p ≡ done v (record { name = p.name; ty = t })
  unfolding resolve_param after
  param_done p e = ap (under p.name) e

  -- a signature by its parameters and its return
  module _ (f : TraitFnDef) where
    pub signature_large : resolve_params schema ps f.params ≡ too_large → resolve_signature schema ps f ≡ too_large
    unfolding resolve_signature after
    signature_large e = ap (λ (k : Counted (List (Param ResolvedType))). after k λ v ts. after (resolve_return schema ps f.return_type) λ w t. done (v + w) (record { name = f.name; params = ts; return_type = normalize_return t })) e

    after_params : {v : ℕ} {ts : List (Param ResolvedType)} → resolve_params schema ps f.params ≡ done v ts
        → resolve_signature schema ps f ≡ after (resolve_return schema ps f.return_type) λ w t. done (v + w) (record { name = f.name; params = ts; return_type = normalize_return t })
    unfolding resolve_signature after
    after_params e = ap (λ (k : Counted (List (Param ResolvedType))). after k λ v ts. after (resolve_return schema ps f.return_type) λ w t. done (v + w) (record { name = f.name; params = ts; return_type = normalize_return t })) e

    pub return_large : {v : ℕ} {ts : List (Param ResolvedType)} → resolve_params schema ps f.params ≡ done v ts → resolve_return schema ps f.return_type ≡ too_large → resolve_signature schema ps f ≡ too_large
    unfolding after
    return_large {v} {ts} e g = after_params e ∙ ap (λ (k : Counted (Option ResolvedType)). after k λ w t. done (v + w) (record { name = f.name; params = ts; return_type = normalize_return t })) g

    pub signature_done : {v w : ℕ} {ts : List (Param ResolvedType)} {t : Option ResolvedType} → resolve_params schema ps f.params ≡ done v ts → resolve_return schema ps f.return_type ≡ done w t
        → resolve_signature schema ps f ≡ done (v + w) (record { name = f.name; params = ts; return_type = normalize_return t })
    unfolding after
    signature_done {v} {w} {ts} e g = after_params e ∙ ap (λ (k : Counted (Option ResolvedType)). after k λ w t. done (v + w) (record { name = f.name; params = ts; return_type = normalize_return t })) g
