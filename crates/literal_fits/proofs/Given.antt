-- A literal's type under an expected type, and with none. Assumes nothing.
use Prim.Native.Nat.{ℕ, ◌<◌}
use mathlib.Core.Path.{◌≡◌, refl, sym, ◌∙◌}
use mathlib.Core.Bool.{Bool, true, false, false≢true}
use mathlib.Core.List.{[], ◌∷◌}
use mathlib.Core.Option.{Option, none, some}
use Rattle.rules.specs.Syntax.{ResolvedType}
use Rattle.rules.specs.Fits.{literal_fits, literal_own}
use Rattle.type_words.specs.declared.HeldType.{HeldType}
use Rattle.type_words.specs.declared.MaybeType.{MaybeType}
use Rattle.type_words.specs.Runs.{Made}
use Rattle.type_words.specs.Holds.{MaybeHolds, Each}
use Rattle.codes.proofs.Codes.{primitive_in}
use Rattle.type_words.proofs.Trees.{plain_holds}
use Rattle.literal_fits.specs.Literals.{literal_type}

module _ (names c n : ℕ) (m : MaybeType) where
  -- the expected type, where it fits
  pub given : (b : Bool) (o : Option ResolvedType) → MaybeHolds names m o → m.some ≡ true → Each m.ty (λ t. b ≡ literal_fits c n t)
      → MaybeHolds names (record { some = b; ty = m.ty }) (literal_type c n o)
  given b none h s f = absurd (false≢true (sym h ∙ s))
  given b (some t) h s f = unfold literal_type in go b (literal_fits c n t) (f names t h.1)
    where
      go : (a d : Bool) → a ≡ d → MaybeHolds names (record { some = a; ty = m.ty }) (elim d as (λ _. Option ResolvedType) [ true ↦ some t | false ↦ none ])
      go true true e = (refl, h.1)
      go true false e = absurd (false≢true (sym e))
      go false true e = absurd (false≢true e)
      go false false e = refl

  -- its own type
  pub own : (k : ℕ) (h : HeldType) (r : MaybeType) (o : Option ResolvedType) → MaybeHolds names m o → m.some ≡ false
      → literal_own c ≡ ResolvedType.plain k → k < 14 → Made h (k ∷ []) false → (r.some ≡ true) × (r.ty ≡ h) → MaybeHolds names r (literal_type c n o)
  unfolding literal_type
  own k h r none e s q l w a = (a.0, rw (q, a.1) (plain_holds names w (primitive_in k l)))
  own k h r (some t) e s q l w a = absurd (false≢true (sym s ∙ e.0))
