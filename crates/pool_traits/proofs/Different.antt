-- Numbers all different: one more at the end, and a trait's functions by their names.
use Prim.Native.Nat.{ℕ, ◌+◌, ◌<◌}
use mathlib.Core.Path.{◌≡◌, refl, sym, ap, ◌∙◌}
use mathlib.Core.Bool.{Bool, true, false}
use mathlib.Core.List.{List, [], ◌∷◌, ◌++◌}
use native.Mathlib.Omega.{arith}
use native.Mathlib.Numerals.{add-one}
use lib.ListN.{length, take, set}
use lib.Seq.{take-suc-set}
use lib.Dec.{eqb}
use borrow.Author.Tests.{eqb-true, eqb-false, eq-eqb, ne_eqb}
use Rattle.std.specs.Prelude.{◌||◌}
use Rattle.std.specs.List.{list_any}
use Rattle.rules.specs.Words.{member, all_different}

clash : {b : Bool} → b ≡ true → b ≡ false → ⊥
clash e f = let z : ◌≡◌ {A = ℕ} 0 1 = cc in omega arith

pub different_none : all_different [] ≡ true
unfolding all_different
different_none = refl

-- the head is the number, or the rest has it
pub member_head : (x y : ℕ) (ys : List ℕ) → x ≡ y → member x (y ∷ ys) ≡ true
unfolding member
member_head x y ys e = ap {B = Bool} (λ b. elim b as (λ _. Bool) [ true ↦ true | false ↦ member x ys ]) (eq-eqb x y e)

pub member_tail : (x y : ℕ) (ys : List ℕ) → (x ≡ y → ⊥) → member x (y ∷ ys) ≡ member x ys
unfolding member
member_tail x y ys e = ap {B = Bool} (λ b. elim b as (λ _. Bool) [ true ↦ true | false ↦ member x ys ]) (ne_eqb x y e)

-- by whether the head is the number
by_head : {P : Type 0} (x y : ℕ) → (x ≡ y → P) → ((x ≡ y → ⊥) → P) → P
by_head {P} x y f g = go (eqb x y) refl
  where
    go : (b : Bool) → eqb x y ≡ b → P
    go true q = f (eqb-true x y q)
    go false q = g (eqb-false x y q)

-- one number more at the end
pub member_more : (x : ℕ) (xs : List ℕ) (y : ℕ) → member x xs ≡ false → (x ≡ y → ⊥) → member x (xs ++ (y ∷ [])) ≡ false
unfolding member
member_more x [] y h e = member_tail x y [] e
member_more x (z ∷ xs) y h e =
    by_head x z (λ q. absurd (clash (member_head x z xs q) h))
    (λ n. member_tail x z (xs ++ (y ∷ [])) n ∙ member_more x xs y (sym (member_tail x z xs n) ∙ h) e)

-- a number that stands in the middle
pub member_middle : (x : ℕ) (xs ys : List ℕ) → member x (xs ++ (x ∷ ys)) ≡ true
member_middle x [] ys = member_head x x ys refl
member_middle x (z ∷ xs) ys = by_head x z (member_head x z (xs ++ (x ∷ ys))) (λ n. member_tail x z (xs ++ (x ∷ ys)) n ∙ member_middle x xs ys)

different_head : (x : ℕ) (xs : List ℕ) → member x xs ≡ true → all_different (x ∷ xs) ≡ false
unfolding all_different
different_head x xs h = ap {B = Bool} (λ b. elim b as (λ _. Bool) [ true ↦ false | false ↦ all_different xs ]) h

different_tail : (x : ℕ) (xs : List ℕ) → member x xs ≡ false → all_different (x ∷ xs) ≡ all_different xs
unfolding all_different
different_tail x xs h = ap {B = Bool} (λ b. elim b as (λ _. Bool) [ true ↦ false | false ↦ all_different xs ]) h

-- by whether the head comes again
by_member : {P : Type 0} (x : ℕ) (xs : List ℕ) → (member x xs ≡ true → P) → (member x xs ≡ false → P) → P
by_member {P} x xs f g = go (member x xs) refl
  where
    go : (b : Bool) → member x xs ≡ b → P
    go true q = f q
    go false q = g q

-- a number that comes twice
pub different_twice : (xs : List ℕ) (x : ℕ) (ys : List ℕ) → member x xs ≡ true → all_different (xs ++ (x ∷ ys)) ≡ false
unfolding member
different_twice [] x ys h = absurd (clash h refl)
different_twice (z ∷ xs) x ys h =
    by_member z (xs ++ (x ∷ ys)) (different_head z (xs ++ (x ∷ ys)))
    (λ m. different_tail z (xs ++ (x ∷ ys)) m
    ∙ by_head x z (λ q. absurd (clash (ap (λ (k : ℕ). member z (xs ++ (k ∷ ys))) q ∙ member_middle z xs ys) m))
    (λ n. different_twice xs x ys (sym (member_tail x z xs n) ∙ h)))

-- one more that was not there
pub different_more : (xs : List ℕ) (x : ℕ) → all_different xs ≡ true → member x xs ≡ false → all_different (xs ++ (x ∷ [])) ≡ true
unfolding member all_different
different_more [] x h k = refl
different_more (z ∷ xs) x h k =
    by_head x z (λ q. absurd (clash (member_head x z xs q) k))
    (λ n. by_member z xs (λ m. absurd (clash h (different_head z xs m)))
    (λ m. different_tail z (xs ++ (x ∷ [])) (member_more z xs x m (λ e. n (sym e)))
    ∙ different_more xs x (sym (different_tail z xs m) ∙ h) (sym (member_tail x z xs n) ∙ k)))

-- a list searched from its start, as code does it
pub member_any : (x : ℕ) (xs : List ℕ) → list_any (λ y. eqb y x) xs ≡ member x xs
unfolding member
member_any x [] = refl
member_any x (y ∷ ys) =
    by_head x y (λ e. ap (λ b. b || list_any (λ y. eqb y x) ys) (eq-eqb y x (sym e)) ∙ sym (member_head x y ys e))
    (λ n. ap (λ b. b || list_any (λ y. eqb y x) ys) (ne_eqb y x (λ q. n (sym q))) ∙ member_any x ys ∙ sym (member_tail x y ys n))

-- one number more in a table
pub take_more : (xs : List ℕ) (i x : ℕ) → i < length xs → take (i + 1) (set xs i x) ≡ take i xs ++ (x ∷ [])
take_more xs i x l = ap (λ (k : ℕ). take k (set xs i x)) (add-one i) ∙ take-suc-set xs i x l
