-- A search from the front, with the laws that a loop cites.
use mathlib.Core.Path.{◌≡◌, refl, ap, ◌∙◌, sym}
use mathlib.Core.Bool.{Bool, true, false}
use Prim.Native.Nat.{ℕ, zero, suc, ◌+◌, ◌-◌, ◌<◌, ◌≤◌}
use native.Mathlib.Omega.{arith}
use native.Mathlib.Nat.{sub-zero}
use native.Mathlib.Numerals.{add-one}
use Rattle.rules.specs.Words.{NONE}
use Rattle.image_texts.specs.Rows.{first_from}

module _ (p : ℕ → Bool) where
  first_step : (left i : ℕ) (b : Bool) → p i ≡ b → first_from p (suc left) i ≡ (elim b as (λ _. ℕ) [ true ↦ i | false ↦ first_from p left (suc i) ])
  unfolding first_from
  first_step left i b e = ap (λ (b : Bool). elim b as (λ _. ℕ) [ true ↦ i | false ↦ first_from p left (suc i) ]) e

  -- where a loop starts, a turn that finds it, one that goes on, and the end
  pub first_start : (n : ℕ) → first_from p (n - 0) 0 ≡ first_from p n 0
  first_start n = ap (λ (k : ℕ). first_from p k 0) (sub-zero n)

  pub first_hit : (n i : ℕ) → i < n → p i ≡ true → first_from p (n - i) i ≡ i
  first_hit n i h e = let m : n - i ≡ suc (n - (i + 1)) = omega arith in rw m (first_step (n - (i + 1)) i true e)

  pub first_miss : (n i : ℕ) → i < n → p i ≡ false → first_from p (n - (i + 1)) (i + 1) ≡ first_from p (n - i) i
  first_miss n i h e = let m : n - i ≡ suc (n - suc i) = omega arith in rw (add-one, m) (sym (first_step (n - suc i) i false e))

  pub first_none : (n i : ℕ) → n ≤ i → first_from p (n - i) i ≡ NONE
  unfolding first_from
  first_none n i h = let m : n - i ≡ 0 = omega arith in rw m

  -- what is found is one of the numbers that were tried, or NONE
  pub first_below : (left i : ℕ) → (first_from p left i ≡ NONE → ⊥) → first_from p left i < i + left
  unfolding first_from
  first_below zero i h = absurd (h refl)
  first_below (suc left) i h = go (p i) refl (first_below left (suc i))
    where
      go : (b : Bool) → p i ≡ b → ((first_from p left (suc i) ≡ NONE → ⊥) → first_from p left (suc i) < suc i + left) → first_from p (suc left) i < i + suc left
      go true e ih = let f : first_from p (suc left) i ≡ i = first_step left i true e in omega arith
      go false e ih =
          let f : first_from p (suc left) i ≡ first_from p left (suc i) = first_step left i false e in
          let l : first_from p left (suc i) < suc i + left = ih (λ q. h (f ∙ q)) in
          omega arith
