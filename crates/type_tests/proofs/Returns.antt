-- Void as a return means none; equality of returns. Assumes nothing.
use Prim.Native.Nat.{ℕ}
use native.Mathlib.Omega.{arith}
use mathlib.Core.Path.{◌≡◌, refl, sym, ap, ◌∙◌, subst}
use mathlib.Core.Bool.{Bool, true, false, not, false≢true}
use mathlib.Core.Option.{Option, none, some}
use lib.Dec.{eqb}
use borrow.Author.Tests.{eq-eqb, ne_eqb}
use Rattle.rules.specs.Syntax.{ResolvedType}
use Rattle.rules.specs.Words.{same}
use Rattle.rules.specs.Types.{VOID, same_type, normalize_return, return_words, same_return}
use Rattle.type_words.specs.declared.MaybeType.{MaybeType}
use Rattle.type_words.specs.Holds.{Holds, MaybeHolds}
use Rattle.codes.proofs.Codes.{primitive_in}
use Rattle.type_tests.specs.Tests.{Same}
use Rattle.type_tests.proofs.Heads.{word, held_word, same_plain}

-- a test that a held type is Void, by its code
void_code : {names : ℕ} (m : MaybeType) (t : ResolvedType) → Holds names m.ty t → same_type t VOID ≡ eqb (word m.ty 0) 13
void_code {names} m t p = same_plain names t 13 p.good (primitive_in 13 (omega arith)) ∙ ap (λ (w : ℕ). eqb w 13) (held_word 0 p)

-- a return by that test
picked : Bool → ResolvedType → Option ResolvedType
picked true t = none
picked false t = some t

normal : (t : ResolvedType) (b : Bool) → same_type t VOID ≡ b → normalize_return (some t) ≡ picked b t
unfolding normalize_return picked
normal t b e = go (same_type t VOID) b e
  where
    go : (a b : Bool) → a ≡ b → (elim a as (λ _. Option ResolvedType) [ true ↦ none | false ↦ some t ]) ≡ picked b t
    go true true e = refl
    go true false e = absurd (false≢true (sym e))
    go false true e = absurd (false≢true e)
    go false false e = refl

module _ (names : ℕ) (m : MaybeType) where
  pub void_return : (r : MaybeType) (o : Option ResolvedType) → MaybeHolds names m o → m.some ≡ true → word m.ty 0 ≡ 13 → r.some ≡ false → MaybeHolds names r (normalize_return o)
  void_return r none h s e q = absurd (false≢true (sym h ∙ s))
  void_return r (some t) h s e q = subst (λ (o : Option ResolvedType). MaybeHolds names r o) (sym (normal t true (void_code m t h.1 ∙ eq-eqb (word m.ty 0) 13 e))) (unfold picked in q)

  pub other_return : (o : Option ResolvedType) → MaybeHolds names m o → m.some ≡ true → (word m.ty 0 ≡ 13 → ⊥) → MaybeHolds names m (normalize_return o)
  other_return none h s n = absurd (false≢true (sym h ∙ s))
  other_return (some t) h s n = subst (λ (o : Option ResolvedType). MaybeHolds names m o) (sym (normal t false (void_code m t h.1 ∙ ne_eqb (word m.ty 0) 13 n))) (unfold picked in h)

  pub no_return : (o : Option ResolvedType) → MaybeHolds names m o → m.some ≡ false → MaybeHolds names m (normalize_return o)
  unfolding normalize_return
  no_return none h s = h
  no_return (some t) h s = absurd (false≢true (sym s ∙ h.0))

-- two returns, by what there is
module _ (i j : ℕ) (a b : MaybeType) where
  pub both_return : {r : Bool} (t u : Option ResolvedType) → MaybeHolds i a t → MaybeHolds j b u → a.some ≡ true → b.some ≡ true → Same a.ty b.ty r → r ≡ same_return t u
  both_return none u h k s q e = absurd (false≢true (sym h ∙ s))
  both_return (some t) none h k s q e = absurd (false≢true (sym k ∙ q))
  both_return (some t) (some u) h k s q e = e.types i t h.1 j u k.1 ∙ (unfold same_type same_return return_words same in refl)

  pub first_return : (t u : Option ResolvedType) → MaybeHolds i a t → MaybeHolds j b u → a.some ≡ true → b.some ≡ false → false ≡ same_return t u
  first_return none u h k s q = absurd (false≢true (sym h ∙ s))
  first_return (some t) none h k s q = unfold same_return return_words same in refl
  first_return (some t) (some u) h k s q = absurd (false≢true (sym q ∙ k.0))

  pub second_return : (t u : Option ResolvedType) → MaybeHolds i a t → MaybeHolds j b u → a.some ≡ false → not b.some ≡ same_return t u
  second_return none none h k s = ap not k ∙ (unfold same_return return_words same in refl)
  second_return none (some u) h k s = ap not k.0 ∙ (unfold same_return return_words same in refl)
  second_return (some t) u h k s = absurd (false≢true (sym s ∙ h.0))
