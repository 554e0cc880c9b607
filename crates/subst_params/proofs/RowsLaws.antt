-- What a search along the rows finds, and rows that stay.
use Prim.Native.Nat.{ℕ, ◌+◌, ◌<◌, ◌≤◌}
use mathlib.Core.Path.{◌≡◌, refl, sym, ap, ◌∙◌}
use mathlib.Core.Bool.{Bool, true, false}
use mathlib.Core.List.{List, [], ◌∷◌}
use mathlib.Core.Option.{Option, none, some}
use native.Mathlib.Omega.{arith}
use borrow.Author.Tests.{eq-eqb, ne_eqb}
use lib.ListN.{length, get_or}
use lib.Dec.{eqb}
use Rattle.rules.specs.Syntax.{ResolvedType, Param}
use Rattle.rules.specs.Substitute.{find_param}
use Rattle.type_words.specs.declared.MaybeType.{MaybeType}
use Rattle.type_words.specs.Holds.{Holds, MaybeHolds}
use Rattle.subst_params.specs.Views.{Row, Views}

-- by the test of the first
tested : (x : ℕ) (p : Param ResolvedType) (ps : List (Param ResolvedType)) (b : Bool) → eqb x p.name ≡ b
    → find_param x (p ∷ ps) ≡ (elim b as (λ _. Option ResolvedType) [ true ↦ some p.ty | false ↦ find_param x ps ])
unfolding find_param
tested x p ps b e = ap (λ (b : Bool). elim b as (λ _. Option ResolvedType) [ true ↦ some p.ty | false ↦ find_param x ps ]) e

holds_≡ : (names : ℕ) (m : MaybeType) {o q : Option ResolvedType} → o ≡ q → MaybeHolds names m q → MaybeHolds names m o
holds_≡ names m e h = rw e h

module _ (names : ℕ) (table : List ℕ) (at x : ℕ) where
  -- the row at `at` has this name
  pub found : (ps : List (Param ResolvedType)) → Views names table at ps → at < length table → get_or table at 0 ≡ x
      → (m : MaybeType) → m.some ≡ true → ((p : Param ResolvedType) → Row names table at p → Holds names m.ty p.ty) → MaybeHolds names m (find_param x ps)
  found [] w l e m s h = absurd (omega arith)
  found (p ∷ ps) w l e m s h = holds_≡ names m (tested x p ps true (eq-eqb x p.name (sym e ∙ w.0.name))) (s, h p w.0)

  -- it has another: the search goes on behind it
  pub passed : (ps : List (Param ResolvedType)) → Views names table at ps → at < length table → (get_or table at 0 ≡ x → ⊥)
      → (qs : List (Param ResolvedType)) × Views names table (at + 66) qs × (find_param x ps ≡ find_param x qs)
  passed [] w l n = absurd (omega arith)
  passed (p ∷ ps) w l n = (ps, w.1, tested x p ps false (ne_eqb x p.name (λ e. n (w.0.name ∙ sym e))))

  -- no row is left
  pub ended : (ps : List (Param ResolvedType)) → Views names table at ps → length table ≤ at → find_param x ps ≡ none
  unfolding find_param
  ended [] w l = refl
  ended (p ∷ ps) w l = absurd (omega (arith, w.0.inside))
