-- A section's words: how many there are, and where each stands among its bytes.
use Prim.Native.Nat.{ℕ, zero, suc, ◌*◌, ◌/◌, ◌<◌, ◌≤◌}
use mathlib.Core.Path.{◌≡◌, refl, sym}
use mathlib.Core.List.{List, [], ◌∷◌}
use native.Mathlib.Omega.{arith}
use lib.ListN.{length, drop, get_or, get_or-eq_default}
use Rattle.words.specs.Words.{word_at}
use Rattle.words.proofs.Words.{words_at}
use Rattle.rules.specs.Words.{words}
use Rattle.image_words.specs.Verdict.{section_words}

-- nothing stands past the end
pub drop_past : (n : ℕ) (xs : List ℕ) → length xs ≤ n → drop n xs ≡ []
drop_past zero [] h = refl
drop_past (suc n) [] h = refl
drop_past zero (x ∷ xs) h = absurd (omega arith)
drop_past (suc n) (x ∷ xs) h = drop_past n xs (omega arith)

-- a quarter as many words as bytes
length_quarter : (xs : List ℕ) → length (words xs) ≡ length xs / 4
unfolding words
length_quarter [] = refl
length_quarter (a ∷ []) = refl
length_quarter (a ∷ b ∷ []) = refl
length_quarter (a ∷ b ∷ c ∷ []) = refl
length_quarter (a ∷ b ∷ c ∷ d ∷ rest) = omega (arith, length_quarter rest)

module _ (section : List ℕ) where
  pub length_section : length (section_words section) ≡ length section / 4
  unfolding section_words
  length_section = length_quarter section

  -- the word that the section's bytes make there
  pub section_at : (i : ℕ) → i < length section / 4 → word_at section (4 * i) ≡ get_or (section_words section) i 0
  unfolding section_words
  section_at i h = sym (words_at i section (omega arith))

  -- past the end every word counts as 0
  pub section_past : (i : ℕ) → length section / 4 ≤ i → 0 ≡ get_or (section_words section) i 0
  section_past i h = let l : length (section_words section) ≤ i = omega (arith, length_section) in sym (get_or-eq_default (section_words section) 0 l)
