-- The rules' equality of lists: what a comparison from the front and of the lengths shows.
use mathlib.Core.Path.{◌≡◌, refl, ap, ◌∙◌}
use mathlib.Core.Bool.{Bool, true, false, ◌&&◌}
use mathlib.Core.List.{List, ◌∷◌}
use Prim.Native.Nat.{ℕ, suc, ◌+◌, ◌<◌, ◌≤◌, compare, Ordering}
use native.Mathlib.Numerals.{add-one}
use borrow.Author.Tests.{eq-eqb}
use lib.Dec.{eqb, compare_is_eq}
use lib.ListN.{length, get_or, drop, drop_of_length-le}
use lib.Seq.{drop-cons}
use Rattle.rules.specs.Words.{same}
use Rattle.laws.proofs.Same.{same_false}

on_equal : (o : Ordering) (b : Bool) → (elim o as (λ _. Bool) [ Ordering.lt ↦ false | Ordering.eq ↦ b | Ordering.gt ↦ false ]) ≡ compare_is_eq o && b
on_equal Ordering.lt b = refl
on_equal Ordering.eq b = refl
on_equal Ordering.gt b = refl

-- the first elements, and the others
pub same_cons : (x y : ℕ) (xs ys : List ℕ) → same (x ∷ xs) (y ∷ ys) ≡ eqb x y && same xs ys
unfolding same
same_cons x y xs ys = on_equal (compare x y) (same xs ys)

-- lists of different lengths
pub same_long : (xs ys : List ℕ) → (length xs ≡ length ys → ⊥) → same xs ys ≡ false
same_long xs ys h = same_false xs ys (λ e. h (ap length e))

-- an element that differs
pub same_apart : (xs ys : List ℕ) (k : ℕ) → (get_or xs k 0 ≡ get_or ys k 0 → ⊥) → same xs ys ≡ false
same_apart xs ys k n = same_false xs ys (λ e. n (ap (λ (l : List ℕ). get_or l k 0) e))

-- from the front: elements that agree, and the end
module _ (xs ys : List ℕ) (k : ℕ) where
  pub same_next : k < length xs → k < length ys → get_or xs k 0 ≡ get_or ys k 0 → same (drop k xs) (drop k ys) ≡ same (drop (k + 1) xs) (drop (k + 1) ys)
  same_next h l e =
      rw (add-one, drop-cons xs k 0 h, drop-cons ys k 0 l)
      (same_cons (get_or xs k 0) (get_or ys k 0) (drop (suc k) xs) (drop (suc k) ys)
      ∙ ap (λ (b : Bool). b && same (drop (suc k) xs) (drop (suc k) ys)) (eq-eqb (get_or xs k 0) (get_or ys k 0) e))

  pub same_end : length xs ≤ k → length ys ≤ k → same (drop k xs) (drop k ys) ≡ true
  unfolding same
  same_end h l = rw (drop_of_length-le xs {i = k} h, drop_of_length-le ys {i = k} l)
