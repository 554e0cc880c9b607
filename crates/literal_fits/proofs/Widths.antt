-- Integer fit as the code computes it, once over the width. Assumes nothing.
use Prim.Native.Nat.{ℕ, ◌-◌, ◌/◌, ◌*◌, ◌^◌, ◌≤◌, ◌<◌}
use native.Mathlib.Nat.{div-eq_of_lt, div-lt_iff_lt-mul, lt_of_lt_of_le}
use native.Mathlib.Omega.{arith}
use native.Mathlib.Decide.{dec_lt}
use mathlib.Core.Path.{◌≡◌, refl, sym, ap, ◌∙◌}
use mathlib.Core.Bool.{Bool, true, false, cond, not, ◌&&◌}
use lib.Dec.{ltb, leb, eqb}
use lib.Pow.{pow_pos, pow_mono}
use lib.IntN.{ℤ, pos, negsuc}
use lib.Signed.{mag}
use borrow.Author.Tests.{lt-ltb, le-ltb, eq-eqb, ne_eqb, ltb-true, ltb-false, le-leb, lt-leb}
use Rattle.rules.specs.Fits.{takes, int_of}
use Rattle.laws.proofs.Widths.{takes_signed, takes_unsigned, mag_int_of, takes_unsigned_neg}
use Rattle.literal_fits.specs.declared.Range.{Range}
use Rattle.literal_fits.specs.Ranges.{range}

-- a shift is zero exactly below the power
pub shift_zero : (x k : ℕ) → eqb (x / 2 ^ k) 0 ≡ ltb x (2 ^ k)
shift_zero x k = go (ltb x (2 ^ k)) refl
  where
    go : (b : Bool) → ltb x (2 ^ k) ≡ b → eqb (x / 2 ^ k) 0 ≡ b
    go true e = eq-eqb (x / 2 ^ k) 0 (div-eq_of_lt (ltb-true x (2 ^ k) e))
    go false e =
        ne_eqb (x / 2 ^ k) 0 (λ z. let l : x < 1 * 2 ^ k = (div-lt_iff_lt-mul (pow_pos k)).0 (omega arith) in omega (arith, ltb-false x (2 ^ k) e))

-- below 2 ^ 64 is below every greater power
pub all_below : (x k : ℕ) → x < 2 ^ 64 → 64 ≤ k → ltb x (2 ^ k) ≡ true
all_below x k h l = lt-ltb x (2 ^ k) (lt_of_lt_of_le h (pow_mono l))

-- the magnitude of a two's complement
pub positive : (n : ℕ) → n < 2 ^ 63 → n ≡ mag (int_of n)
positive n h = sym (mag_int_of n ∙ rw (lt-ltb n (2 ^ 63) h))

pub negative : (n : ℕ) → 2 ^ 63 ≤ n → 2 ^ 64 - 1 - n ≡ mag (int_of n)
negative n h = sym (mag_int_of n ∙ rw (le-ltb n (2 ^ 63) h))

-- that integer, by its magnitude and its sign
is_pos : (n : ℕ) → n < 2 ^ 63 → int_of n ≡ pos n
unfolding int_of
is_pos n h = rw (lt-ltb n (2 ^ 63) h)

is_neg : (n : ℕ) → 2 ^ 63 ≤ n → int_of n ≡ negsuc (2 ^ 64 - 1 - n)
unfolding int_of
is_neg n h = rw (le-ltb n (2 ^ 63) h)

pub signed_mag : (n m : ℕ) → m ≡ mag (int_of n) → cond (leb (2 ^ 63) n) (negsuc m) (pos m) ≡ int_of n
signed_mag n m e = go (dec_lt n (2 ^ 63))
  where
    go : Dec (n < 2 ^ 63) → cond (leb (2 ^ 63) n) (negsuc m) (pos m) ≡ int_of n
    go (yes h) = rw (lt-leb (2 ^ 63) n h) (ap pos (e ∙ sym (positive n h)) ∙ sym (is_pos n h))
    go (no h) = let l : 2 ^ 63 ≤ n = omega arith in rw (le-leb (2 ^ 63) n l) (ap negsuc (e ∙ sym (negative n l)) ∙ sym (is_neg n l))

-- at every width, of an integer by its magnitude and its sign
pub signed_fit : (negative : Bool) (m : ℕ) {q : Range} {n k : ℕ} {b : Bool} → q ≡ Range.Signed n → k ≡ n - 1 → b ≡ ltb m (2 ^ k) → b ≡ takes (range q) (cond negative (negsuc m) (pos m))
signed_fit true m {n = n} eq ek eb = rw (eq, takes_signed n (negsuc m), ← ek) eb
signed_fit false m {n = n} eq ek eb = rw (eq, takes_signed n (pos m), ← ek) eb

pub unsigned_fit : (negative : Bool) (m : ℕ) {q : Range} {n : ℕ} {b : Bool} → q ≡ Range.Unsigned n → b ≡ ltb m (2 ^ n) → (not negative && b) ≡ takes (range q) (cond negative (negsuc m) (pos m))
unsigned_fit true m {n = n} eq eb = rw (eq, takes_unsigned_neg n m)
unsigned_fit false m {n = n} eq eb = rw (eq, takes_unsigned n m) eb

pub any_fit : (z : ℤ) {q : Range} → q ≡ Range.Any → true ≡ takes (range q) z
unfolding takes
any_fit z e = rw e

pub nothing_fit : (z : ℤ) {q : Range} → q ≡ Range.Nothing → false ≡ takes (range q) z
unfolding takes
nothing_fit z e = rw e
