-- A function's parts, from the places that the code has.
use Prim.Native.Nat.{ℕ, ◌+◌, ◌<◌}
use mathlib.Core.Path.{◌≡◌, sym, subst, ◌∙◌}
use mathlib.Core.Bool.{true, false}
use mathlib.Core.List.{List}
use mathlib.Core.Option.{Option, none, some}
use native.Mathlib.Omega.{arith}
use lib.ListN.{length, get_or}
use Rattle.rules.specs.Syntax.{ResolvedType, run, Param}
use Rattle.rules.specs.Good.{Stored}
use Rattle.type_words.specs.declared.HeldType.{HeldType}
use Rattle.type_words.specs.declared.MaybeType.{MaybeType}
use Rattle.type_words.specs.Holds.{Holds, MaybeHolds}
use Rattle.image_words.specs.Gives.{Counted, MaybeAt}
use Rattle.image_words.specs.Stands.{Stands}
use Rattle.pool_types.specs.TypeAt.{TypeStands}
use Rattle.pool_types.specs.ParamAt.{ParamAt}

-- over the number of name rows and the words
module _ (names : ℕ) (ws : List ℕ) where
  -- from the code's places, which are the same
  pub params_from : (ps : List (Param ResolvedType)) (n : ℕ) {place at : ℕ} → place ≡ at → Counted ws 32 (ParamAt names ws (TypeStands names ws)) ps at n → Counted ws 32 (ParamAt names ws (TypeStands names ws)) ps place n
  params_from ps n e h = subst (λ (k : ℕ). Counted ws 32 (ParamAt names ws (TypeStands names ws)) ps k n) (sym e) h

  pub return_from : (o : Option ResolvedType) (n : ℕ) {place at : ℕ} → place ≡ at → MaybeAt ws (TypeStands names ws) o at n → MaybeAt ws (TypeStands names ws) o place n
  return_from o n e h = subst (λ (k : ℕ). MaybeAt ws (TypeStands names ws) o k n) (sym e) h

  -- the return that stands there, held or none
  pub no_return : (o : Option ResolvedType) (at n w : ℕ) → MaybeAt ws (TypeStands names ws) o at n → w ≡ get_or ws at 0 → w ≡ 0 → (m : MaybeType) → m.some ≡ false → MaybeHolds names m o
  no_return none at n w k e z m s = s
  no_return (some t) at n w k e z m s = absurd (omega (arith, k.0.is))

  pub held_return : (o : Option ResolvedType) (at n w : ℕ) → MaybeAt ws (TypeStands names ws) o at n → w ≡ get_or ws at 0 → (w ≡ 0 → ⊥) → (place : ℕ) → (at < length ws → place ≡ at + 1) → (m : MaybeType) (h : HeldType)
      → (m.some ≡ true) × (m.ty ≡ h) → ((t : ResolvedType) (n : ℕ) → Stands ws (run t) place n → Stored names t → Holds names h t) → MaybeHolds names m o
  held_return none at n w k e z place a m h s f = absurd (z (e ∙ k.0.is))
  held_return (some t) at n w k e z place a m h s f = (s.0, rw s.1 (f t n (subst (λ (j : ℕ). Stands ws (run t) j n) (sym (a k.0.inside)) k.1.words_at) k.1.good))
