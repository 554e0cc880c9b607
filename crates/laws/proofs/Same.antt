-- `same` is equality of lists of numbers, and equality of types is equality of their runs, no more and no less.
use Prim.Native.Nat.{ℕ, compare, Ordering}
use mathlib.Core.Path.{◌≡◌, refl, ap, ap₂, ◌∙◌}
use mathlib.Core.Bool.{Bool, true, false}
use mathlib.Core.List.{List, [], ◌∷◌}
use mathlib.Core.Option.{Option, none, some}
use lib.Dec.{eqb, compare_is_eq}
use borrow.Author.Tests.{eqb-true, eq-eqb}
use Rattle.rules.specs.Words.{same}
use Rattle.rules.specs.Syntax.{ResolvedType, run}
use Rattle.rules.specs.Types.{same_type, return_words, same_return}
use Rattle.rules.proofs.Clash.{clash}
use Rattle.rules.specs.Good.{Good, AllOption}
use Rattle.rules.proofs.Types.{run_injective}

-- a test by comparing
abbrev on_equal : Bool → Ordering → Bool
on_equal b o = elim o [ Ordering.lt ↦ false | Ordering.eq ↦ b | Ordering.gt ↦ false ]

pub same_true : (xs ys : List ℕ) → same xs ys ≡ true → xs ≡ ys
unfolding same
same_true [] [] e = refl
same_true [] (y ∷ ys) e = clash (cc)
same_true (x ∷ xs) [] e = clash (cc)
same_true (x ∷ xs) (y ∷ ys) e = go (compare x y) refl e (same_true xs ys)
  where
    go : (o : Ordering) → compare x y ≡ o → on_equal (same xs ys) o ≡ true → (same xs ys ≡ true → xs ≡ ys) → x ∷ xs ≡ y ∷ ys
    go Ordering.lt q e ih = clash (cc)
    go Ordering.eq q e ih = ap₂ ◌∷◌ (eqb-true x y (ap compare_is_eq q)) (ih e)
    go Ordering.gt q e ih = clash (cc)

pub same_self : (xs : List ℕ) → same xs xs ≡ true
unfolding same
same_self [] = refl
same_self (x ∷ xs) = ap (on_equal (same xs xs)) (equal (compare x x) refl) ∙ same_self xs
  where
    apart : (o : Ordering) → compare x x ≡ o → compare_is_eq o ≡ false → compare x x ≡ Ordering.eq
    apart o q r = absurd (let p : eqb x x ≡ true = eq-eqb x x refl in let s : eqb x x ≡ false = ap compare_is_eq q ∙ r in clash (cc))

    equal : (o : Ordering) → compare x x ≡ o → compare x x ≡ Ordering.eq
    equal Ordering.lt q = apart Ordering.lt q refl
    equal Ordering.eq q = q
    equal Ordering.gt q = apart Ordering.gt q refl

-- lists that differ
pub same_false : (xs ys : List ℕ) → (xs ≡ ys → ⊥) → same xs ys ≡ false
same_false xs ys n = go (same xs ys) refl
  where
    go : (b : Bool) → same xs ys ≡ b → b ≡ false
    go true e = absurd (n (same_true xs ys e))
    go false e = refl

pub same_type_true : (names : ℕ) (t u : ResolvedType) → Good names t → Good names u → same_type t u ≡ true → t ≡ u
unfolding same_type
same_type_true names t u g h e = run_injective names t u g h (same_true (run t) (run u) e)

pub same_type_self : (t : ResolvedType) → same_type t t ≡ true
unfolding same_type
same_type_self t = same_self (run t)

-- a return's words tell it
pub return_injective : (names : ℕ) (t u : Option ResolvedType) → AllOption (Good names) t → AllOption (Good names) u → return_words t ≡ return_words u → t ≡ u
unfolding return_words
return_injective names none none g h e = refl
return_injective names none (some u) g h e = clash (cc)
return_injective names (some t) none g h e = clash (cc)
return_injective names (some t) (some u) g h e = let r : run t ≡ run u = cc in ap some (run_injective names t u g h r)

pub same_return_true : (names : ℕ) (t u : Option ResolvedType) → AllOption (Good names) t → AllOption (Good names) u → same_return t u ≡ true → t ≡ u
unfolding same_return
same_return_true names t u g h e = return_injective names t u g h (same_true (return_words t) (return_words u) e)

pub same_return_self : (t : Option ResolvedType) → same_return t t ≡ true
unfolding same_return
same_return_self t = same_self (return_words t)
