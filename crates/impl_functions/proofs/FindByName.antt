-- A search for a function by its name. Assumes nothing.
use Prim.Native.Nat.{ℕ, zero, suc, ◌<◌}
use mathlib.Core.Path.{◌≡◌, refl, sym, ap, subst}
use mathlib.Core.Bool.{true, false}
use mathlib.Core.List.{List, [], ◌∷◌}
use mathlib.Core.Option.{Option as Maybe, none, some}
use native.Mathlib.Omega.{arith}
use lib.ListN.{length}
use borrow.Author.Tests.{eq-eqb, ne_eqb}
use Rattle.std.specs.Prelude.{Option, Some, None, MatchOption}
use Rattle.std.specs.List.{AllWithin, HoldsAt}
use Rattle.rules.specs.Syntax.{ImplFnDef}
use Rattle.rules.specs.Project.{find_function}
use Rattle.image_layout.specs.declared.Layout.{Layout}
use Rattle.impl_rows.specs.Found.{Agrees, Finds}
use Rattle.impl_functions.specs.Functions.{FunctionHere, Placed}

-- the first one has the name, or the others decide
find_head : (x : ℕ) (f : ImplFnDef) (fs : List ImplFnDef) → x ≡ f.name → find_function x (f ∷ fs) ≡ some f
unfolding find_function
find_head x f fs e = ap {B = Maybe ImplFnDef} (λ b. elim b as (λ _. Maybe ImplFnDef) [ true ↦ some f | false ↦ find_function x fs ]) (eq-eqb x f.name e)

find_tail : (x : ℕ) (f : ImplFnDef) (fs : List ImplFnDef) → (x ≡ f.name → ⊥) → find_function x (f ∷ fs) ≡ find_function x fs
unfolding find_function
find_tail x f fs e = ap {B = Maybe ImplFnDef} (λ b. elim b as (λ _. Maybe ImplFnDef) [ true ↦ some f | false ↦ find_function x fs ]) (ne_eqb x f.name e)

find_none : (x : ℕ) → find_function x [] ≡ none
unfolding find_function
find_none x = refl

module _ (l : Layout) (x : ℕ) where
  -- whether the function at a place has the name
  abbrev pub Named : ℕ → Type 0
  Named place = (f : ImplFnDef) (m : ℕ) → FunctionHere l f place m → x ≡ f.name

  abbrev pub Other : ℕ → Type 0
  Other place = (f : ImplFnDef) (m : ℕ) → FunctionHere l f place m → x ≡ f.name → ⊥

  abbrev Says : Option ℕ → Maybe ImplFnDef → Type 0
  Says r o = Agrees (FunctionHere l) o r

  first : (fs : List ImplFnDef) (places : List ℕ) (p i : ℕ) → Placed l fs places → i < length places → HoldsAt (λ y. y ≡ p) places i → Named p → AllWithin Other places 0 i
      → Says (Some p) (find_function x fs)
  first [] [] p i e b a h m = absurd (omega arith)
  first [] (q ∷ ps) p i e b a h m = absurd e
  first (f ∷ fs) [] p i e b a h m = absurd e
  first (f ∷ fs) (q ∷ ps) p zero e b a h m =
      let k = subst (λ (y : ℕ). FunctionHere l f y e.0) (a 0) e.1 in
      subst (Says (Some p)) (sym (find_head x f fs (h f e.0 k))) (e.0, k)
  first (f ∷ fs) (q ∷ ps) p (suc i) e b a h m =
      subst (Says (Some p)) (sym (find_tail x f fs (m 0 0 (omega arith) (omega arith) f e.0 e.1)))
      (first fs ps p i e.2 (omega arith) (λ d. a d) h (λ k d low high. m (suc k) d (omega arith) (omega arith)))

  nowhere : (fs : List ImplFnDef) (places : List ℕ) → Placed l fs places → AllWithin Other places 0 (length places) → Says None (find_function x fs)
  nowhere [] [] e m = subst (Says None) (sym (find_none x)) refl
  nowhere [] (q ∷ ps) e m = absurd e
  nowhere (f ∷ fs) [] e m = absurd e
  nowhere (f ∷ fs) (q ∷ ps) e m =
      subst (Says None) (sym (find_tail x f fs (m 0 0 (omega arith) (omega arith) f e.0 e.1)))
      (nowhere fs ps e.2 (λ k d low high. m (suc k) d (omega arith) (omega arith)))

  -- what a search along the places finds
  pub finds : (places : List ℕ) (r : Option ℕ)
      → MatchOption r (AllWithin Other places 0 (length places)) (λ p. Named p × (i : ℕ) × (i < length places) × HoldsAt (λ y. y ≡ p) places i × AllWithin Other places 0 i)
      → (fs : List ImplFnDef) → Placed l fs places → Finds (FunctionHere l) (find_function x fs) r
  finds places None m fs e = record { is = nowhere fs places e m }
  finds places (Some p) m fs e = record { is = first fs places p m.1 e m.2 m.3 m.0 m.4 }
