-- Laws: a number's decimal digits.
use Prim.Native.Nat.{ℕ, zero, suc, ◌-◌, ◌*◌, ◌/◌, ◌%◌, ◌<◌, ◌≤◌, ◌^◌}
use mathlib.Core.Path.{◌≡◌, refl, sym, ap, ◌∙◌}
use mathlib.Core.Bool.{Bool, true, false}
use mathlib.Core.List.{[], ◌∷◌}
use native.Mathlib.Omega.{arith}
use native.Mathlib.Decide.{dec_le}
use native.Mathlib.Nat.{pow-suc, one-le-pow, pow-le-pow_right}
use lib.ListN.{length, length-append}
use borrow.Author.Tests.{lt-ltb, le-ltb}
use Rattle.io.specs.Digits.{last_digits, hex_digit_ascii, IsDigitCount}
use Rattle.lines.specs.Decimal.{places, decimal}

-- one digit, or one more than the tenth of the number has
module _ (most n : ℕ) where
  places_one : n < 10 → places (suc most) n ≡ 1
  unfolding places
  places_one h = ap (λ (b : Bool). elim b as (λ _. ℕ) [ true ↦ 1 | false ↦ suc (places most (n / 10)) ]) (lt-ltb n 10 h)

  places_more : 10 ≤ n → places (suc most) n ≡ suc (places most (n / 10))
  unfolding places
  places_more h = ap (λ (b : Bool). elim b as (λ _. ℕ) [ true ↦ 1 | false ↦ suc (places most (n / 10)) ]) (le-ltb n 10 h)

-- the fewest digits that hold a number are those that it has
places_fewest : (most n k : ℕ) → k ≤ most → IsDigitCount 10 1 n k → places most n ≡ k
places_fewest most n zero l f = absurd (omega (arith, f.0))
places_fewest zero n (suc k) l f = absurd (omega arith)
places_fewest (suc most) n (suc zero) l f = places_one most n f.1
places_fewest (suc most) n (suc (suc j)) l f =
    let p : 10 ^ suc j ≡ 10 ^ j * 10 = pow-suc 10 j in
    let q : 10 ^ suc (suc j) ≡ 10 ^ suc j * 10 = pow-suc 10 (suc j) in
    let s : suc (suc j) - 1 ≡ suc j = omega arith in
    let t : suc j - 1 ≡ j = omega arith in
    let low : 10 ^ suc j ≤ n = rw s at (f.2 (omega arith)) in
    let one : 1 ≤ 10 ^ j = one-le-pow j 10 (omega arith) in
    places_more most n (omega (arith, p, low, one))
    ∙ ap suc (places_fewest most (n / 10) (suc j) (omega arith) (omega arith, omega (arith, q, f.1), λ _. rw t (omega (arith, p, low))))

-- which are 20 at most
fewest_small : (n k : ℕ) → n < 2 ^ 64 → IsDigitCount 10 1 n k → k ≤ 20
fewest_small n k h f = elim (dec_le k 20) [
  | yes l ↦ l
  | no l ↦ let p : 10 ^ 20 ≤ 10 ^ (k - 1) = pow-le-pow_right {n = 10} (omega arith) {i = 20} {j = k - 1} (omega arith) in absurd (omega (arith, p, f.2 (omega arith)))
]

-- what `io::decimal` writes
pub decimal_of : (n k : ℕ) → n < 2 ^ 64 → IsDigitCount 10 1 n k → last_digits 10 k n ≡ decimal n
unfolding decimal
decimal_of n k h f = ap (λ (j : ℕ). last_digits 10 j n) (sym (places_fewest 20 n k (fewest_small n k h f) f))

length_digits : (b k n : ℕ) → length (last_digits b k n) ≡ k
length_digits b zero n = refl
length_digits b (suc k) n = omega (arith, length-append (last_digits b k (n / b)) (hex_digit_ascii (n % b) ∷ []), length_digits b k (n / b))

places_most : (most n : ℕ) → places most n ≤ most
unfolding places
places_most zero n = omega arith
places_most (suc most) n = elim (dec_le 10 n) [
  | yes h ↦ omega (arith, places_more most n h, places_most most (n / 10))
  | no h ↦ omega (arith, places_one most n (omega arith))
]

places_few : (most m n : ℕ) → n < 10 ^ suc m → places most n ≤ suc m
places_few zero m n h = omega (arith, places_most zero n)
places_few (suc most) zero n h = omega (arith, places_one most n h)
places_few (suc most) (suc m) n h = elim (dec_le 10 n) [
  | yes k ↦ omega (arith, places_more most n k, places_few most m (n / 10) (omega (arith, pow-suc 10 (suc m))))
  | no k ↦ omega (arith, places_one most n (omega arith))
]

-- bytes of the digits
pub decimal_short : (n : ℕ) → n < 2 ^ 32 → length (decimal n) ≤ 10
unfolding decimal
decimal_short n h = omega (arith, length_digits 10 (places 20 n) n, places_few 20 9 n (omega arith))
