-- Stored bytes with a fill behind them, up to a buffer's length.
use Prim.Native.Nat.{ℕ, ◌-◌}
use mathlib.Core.Path.{◌≡◌, refl, sym, ap, ◌∙◌}
use mathlib.Core.Bool.{Bool, false, ◌&&◌}
use mathlib.Core.List.{List, [], ◌∷◌, ◌++◌}
use native.Mathlib.Omega.{arith}
use lib.Dec.{eqb}
use lib.ListN.{length, replicate, length-append}
use borrow.Author.Tests.{eq-eqb}
use Rattle.std.specs.List.{list_all}
use Rattle.rules.specs.Words.{same}
use Rattle.laws.proofs.Same.{same_false}
use Rattle.image_texts.proofs.SameLaws.{same_cons}

-- what two lists begin with alike does not matter
same_front : (s xs ys : List ℕ) → same (s ++ xs) (s ++ ys) ≡ same xs ys
same_front [] xs ys = refl
same_front (c ∷ s) xs ys = same_cons c c (s ++ xs) (s ++ ys) ∙ ap (λ (b : Bool). b && same (s ++ xs) (s ++ ys)) (eq-eqb c c refl) ∙ same_front s xs ys

-- so many fills, one by one
same_fill : (xs : List ℕ) (fill : ℕ) → same xs (replicate (length xs) fill) ≡ list_all (λ b. eqb b fill) xs
unfolding same
same_fill [] fill = refl
same_fill (b ∷ xs) fill = same_cons b fill xs (replicate (length xs) fill) ∙ ap (λ (t : Bool). eqb b fill && t) (same_fill xs fill)

module _ (buffer stored : List ℕ) (fill : ℕ) where
  abbrev filled : List ℕ
  filled = stored ++ replicate (length buffer - length stored) fill

  -- a buffer that does not begin so
  pub apart : ((rest : List ℕ) → buffer ≡ stored ++ rest → ⊥) → false ≡ same buffer filled
  apart n = sym (same_false buffer filled (n (replicate (length buffer - length stored) fill)))

  -- one that does, with what is behind
  pub behind : (rest : List ℕ) → buffer ≡ stored ++ rest → list_all (λ b. eqb b fill) rest ≡ same buffer filled
  behind rest e =
      let size : length buffer - length stored ≡ length rest = omega (arith, ap length e, length-append stored rest) in
      rw size (rw e (sym (same_front stored rest (replicate (length rest) fill) ∙ same_fill rest fill)))
