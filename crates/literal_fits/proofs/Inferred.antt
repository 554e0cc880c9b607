-- A literal's type as the typing of expressions has it. Assumes nothing.
use Prim.Native.Nat.{ℕ}
use mathlib.Core.Path.{◌≡◌, refl, ap}
use mathlib.Core.Bool.{Bool, true, false}
use mathlib.Core.Option.{Option, none, some}
use Rattle.rules.specs.Syntax.{ResolvedType}
use Rattle.rules.specs.Fits.{literal_fits, literal_own}
use Rattle.rules.specs.Refusal.{Result, ok}
use Rattle.rules.specs.Infer.{FunctionContext, infer_literal, type_mismatch}
use Rattle.rules.proofs.Clash.{clash}
use Rattle.literal_fits.specs.Literals.{literal_type}

module _ (context : FunctionContext) (c n : ℕ) where
  pub literal_typed : (o : Option ResolvedType) (t : ResolvedType) → literal_type c n o ≡ some t → infer_literal context c n o ≡ ok t
  unfolding literal_type infer_literal
  literal_typed none t e = let q : literal_own c ≡ t = cc in ap ok q
  literal_typed (some u) t e = go (literal_fits c n u) e
    where
      go : (b : Bool) → ◌≡◌ {A = Option ResolvedType} (elim b as (λ _. Option ResolvedType) [ true ↦ some u | false ↦ none ]) (some t)
          → (elim b as (λ _. Result ResolvedType) [ true ↦ ok u | false ↦ type_mismatch context {A = ResolvedType} c u (literal_own c) ]) ≡ ok t
      go true e = let q : u ≡ t = cc in ap ok q
      go false e = clash (cc)

  pub literal_refused : (u : ResolvedType) → literal_type c n (some u) ≡ none → infer_literal context c n (some u) ≡ type_mismatch context {A = ResolvedType} c u (literal_own c)
  unfolding literal_type infer_literal
  literal_refused u e = go (literal_fits c n u) e
    where
      go : (b : Bool) → ◌≡◌ {A = Option ResolvedType} (elim b as (λ _. Option ResolvedType) [ true ↦ some u | false ↦ none ]) none
          → (elim b as (λ _. Result ResolvedType) [ true ↦ ok u | false ↦ type_mismatch context {A = ResolvedType} c u (literal_own c) ]) ≡ type_mismatch context {A = ResolvedType} c u (literal_own c)
      go true e = clash (cc)
      go false e = refl
