-- Integer fit, once over the width.
use Prim.Native.Nat.{ℕ, zero, suc, ◌-◌, ◌^◌, ◌<◌}
use native.Mathlib.Omega.{arith}
use mathlib.Core.Path.{◌≡◌, refl, sym, ap, ◌∙◌}
use mathlib.Core.Logic.{◌⊎◌, inl, inr}
use mathlib.Core.Bool.{Bool, true, false, cond, ◌&&◌, and-true}
use lib.Dec.{leb, ltb, leb-zero, leb-suc-suc}
use lib.Pow.{pow_pos}
use lib.IntN.{ℤ, pos, negsuc, neg_ℤ}
use lib.Signed.{mag, le_z, lt_z}
use borrow.Author.Tests.{ltb-true}
use Rattle.rules.specs.Syntax.{ResolvedType}
use Rattle.rules.specs.Fits.{Signed, Unsigned, takes, range_of, int_of}

-- -m ≤ z < m is one bound on z's magnitude
between_mag : (m : ℕ) (z : ℤ) → 0 < m → (le_z (neg_ℤ (pos m)) z && lt_z z (pos m)) ≡ ltb (mag z) m
between_mag zero z h = absurd (omega arith)
between_mag (suc m) (pos x) h = refl
between_mag (suc m) (negsuc x) h = and-true (leb x m) ∙ sym (leb-suc-suc x m)

pub takes_signed : (n : ℕ) (z : ℤ) → takes (Signed n) z ≡ ltb (mag z) (2 ^ (n - 1))
unfolding takes
takes_signed n z = between_mag (2 ^ (n - 1)) z (pow_pos (n - 1))

pub takes_unsigned : (n x : ℕ) → takes (Unsigned n) (pos x) ≡ ltb x (2 ^ n)
unfolding takes
takes_unsigned n x = rw (leb-zero x)

pub takes_unsigned_neg : (n x : ℕ) → takes (Unsigned n) (negsuc x) ≡ false
unfolding takes
takes_unsigned_neg n x = refl

mag_zero : (z : ℤ) → mag z < 1 → (z ≡ pos 0) ⊎ (z ≡ negsuc 0)
mag_zero (pos n) l = let e : n ≡ 0 = omega arith in inl (ap pos e)
mag_zero (negsuc n) l = let e : n ≡ 0 = omega arith in inr (ap negsuc e)

-- signed 1 bit takes -1 and 0 only
pub bit_only : (z : ℤ) → takes (range_of (ResolvedType.sub 1 1)) z ≡ true → (z ≡ pos 0) ⊎ (z ≡ negsuc 0)
unfolding range_of
bit_only z h = mag_zero z (ltb-true (mag z) 1 (sym (takes_signed 1 z) ∙ h))

-- the magnitude of a 64-bit two's complement, by its bits
pub mag_int_of : (n : ℕ) → mag (int_of n) ≡ cond (ltb n (2 ^ 63)) n (2 ^ 64 - 1 - n)
unfolding int_of
mag_int_of n = go (ltb n (2 ^ 63))
  where
    go : (b : Bool) → mag (cond b (pos n) (negsuc (2 ^ 64 - 1 - n))) ≡ cond b n (2 ^ 64 - 1 - n)
    go true = refl
    go false = refl

-- an unsigned width takes no negative number
pub takes_unsigned_int : (w n : ℕ) → takes (Unsigned w) (int_of n) ≡ cond (ltb n (2 ^ 63)) (ltb n (2 ^ w)) false
unfolding int_of
takes_unsigned_int w n = go (ltb n (2 ^ 63))
  where
    go : (b : Bool) → takes (Unsigned w) (cond b (pos n) (negsuc (2 ^ 64 - 1 - n))) ≡ cond b (ltb n (2 ^ w)) false
    go true = takes_unsigned w n
    go false = takes_unsigned_neg w (2 ^ 64 - 1 - n)
