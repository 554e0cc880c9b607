-- A test of every number below n, as a Bool, with the laws that a loop cites.
use mathlib.Core.Path.{◌≡◌, refl, ap, ap₂, ◌∙◌, sym}
use mathlib.Core.Bool.{Bool, true, false, ◌&&◌}
use Prim.Native.Nat.{ℕ, zero, suc, ◌+◌, ◌-◌, ◌<◌, ◌≤◌}
use native.Mathlib.Omega.{arith}
use native.Mathlib.Numerals.{add-one}
use native.Mathlib.Nat.{add-zero, add-suc}
use Rattle.image_texts.specs.All.{all_below}

and-false : (a : Bool) → a && false ≡ false
and-false true = refl
and-false false = refl

pub and_assoc : (a b c : Bool) → a && b && c ≡ a && (b && c)
and_assoc true b c = refl
and_assoc false b c = refl

pub and-true : (a : Bool) → a && true ≡ a
and-true true = refl
and-true false = refl

and_swap : (a b c d : Bool) → a && b && (c && d) ≡ a && c && (b && d)
and_swap true true c d = refl
and_swap true false true d = refl
and_swap true false false d = refl
and_swap false b c d = refl

module _ (p : ℕ → Bool) where
  pub all_none : all_below 0 p ≡ true
  unfolding all_below
  all_none = refl

  all_step : (n : ℕ) → all_below n p && p n ≡ all_below (n + 1) p
  unfolding all_below
  all_step n = rw add-one

  -- once false, always false
  all_stop : (k n : ℕ) → all_below n p ≡ false → all_below (n + k) p ≡ false
  unfolding all_below
  all_stop zero n e = rw add-zero e
  all_stop (suc k) n e = rw (add-suc, all_stop k n e)

  -- what a loop that stops early shows
  pub all_false : (i n : ℕ) → i < n → p i ≡ false → all_below n p ≡ false
  all_false i n h e =
      let at : all_below (i + 1) p ≡ false = sym (all_step i) ∙ rw e (and-false (all_below i p)) in
      let m : i + 1 + (n - (i + 1)) ≡ n = omega arith in
      rw m at (all_stop (n - (i + 1)) (i + 1) at)

  -- what one that goes on shows
  pub all_more : (i : ℕ) → all_below i p ≡ true → p i ≡ true → all_below (i + 1) p ≡ true
  all_more i e f = sym (all_step i) ∙ rw (e, f)

  -- each by itself
  pub all_true : (n : ℕ) → ((i : ℕ) → i < n → p i ≡ true) → all_below n p ≡ true
  all_true zero h = all_none
  all_true (suc n) h = rw (← add-one) (all_more n (all_true n (λ i l. h i (omega arith))) (h n (omega arith)))

  -- and what one shows at its end
  pub all_done : (i n : ℕ) → i ≤ n → n ≤ i → all_below i p ≡ true → true ≡ all_below n p
  all_done i n h k e = let m : i ≡ n = omega arith in rw m at (sym e)

-- the first number taken out
pub all_front : (n : ℕ) (p : ℕ → Bool) → all_below (suc n) p ≡ p 0 && all_below n (λ k. p (suc k))
unfolding all_below
all_front zero p = sym (and-true (p 0))
all_front (suc n) p = ap (λ (b : Bool). b && p (suc n)) (all_front n p) ∙ and_assoc (p 0) (all_below n (λ k. p (suc k))) (p (suc n))

-- tests that agree
pub all_same : (n : ℕ) (p q : ℕ → Bool) → ((i : ℕ) → p i ≡ q i) → all_below n p ≡ all_below n q
unfolding all_below
all_same zero p q e = refl
all_same (suc n) p q e = ap₂ ◌&&◌ (all_same n p q e) (e n)

-- two tests in one
pub all_both : (n : ℕ) (p q : ℕ → Bool) → all_below n (λ i. p i && q i) ≡ all_below n p && all_below n q
unfolding all_below
all_both zero p q = refl
all_both (suc n) p q = ap (λ (b : Bool). b && (p n && q n)) (all_both n p q) ∙ and_swap (all_below n p) (all_below n q) (p n) (q n)
