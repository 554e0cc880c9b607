-- Little-endian words of a list of bytes, by the rules' definitions of words and of their bytes.
use mathlib.Core.Path.{◌≡◌, refl, ap, ◌∙◌}
use Prim.Native.Nat.{ℕ, zero, suc, ◌+◌, ◌*◌, ◌/◌, ◌%◌, ◌<◌, ◌≤◌, ◌^◌}
use native.Mathlib.Omega.{arith}
use native.Mathlib.Nat.{div-div-eq-div-mul, div-add-mod', mod-eq_of_lt, le_trans}
use mathlib.Core.List.{List, [], ◌∷◌}
use lib.ListN.{length, get_or, get_or-eq_default}
use Rattle.rules.specs.Words.{words, bytes_of}
use Rattle.words.specs.Words.{word4, word_at}

-- past the end every word is 0
pub past : (xs : List ℕ) (at : ℕ) → length xs ≤ at → 0 ≡ word_at xs at
past xs at h =
    let none : (k : ℕ) → at ≤ k → get_or xs k 0 ≡ 0 = λ k l. get_or-eq_default xs 0 (le_trans h l) in
    omega (arith, none at (omega arith), none (at + 1) (omega arith), none (at + 2) (omega arith), none (at + 3) (omega arith))

sum : (w q₁ q₂ q₃ r₀ r₁ r₂ r₃ : ℕ) → q₁ * 256 + r₀ ≡ w → q₂ * 256 + r₁ ≡ q₁ → q₃ * 256 + r₂ ≡ q₂ → r₃ ≡ q₃ → word4 r₀ r₁ r₂ r₃ ≡ w
sum w q₁ q₂ q₃ r₀ r₁ r₂ r₃ e₀ e₁ e₂ e₃ = omega arith

-- four bytes make the word again
pub word4_le : (w : ℕ) → w < 2 ^ 32 → word4 (w % 256) (w / 256 % 256) (w / 65536 % 256) (w / 16777216 % 256) ≡ w
word4_le w h =
    let e1 : w / 65536 * 256 + w / 256 % 256 ≡ w / 256 = rw (div-div-eq-div-mul w 256 256) at (div-add-mod' (w / 256) 256) in
    let e2 : w / 16777216 * 256 + w / 65536 % 256 ≡ w / 65536 = rw (div-div-eq-div-mul w 65536 256) at (div-add-mod' (w / 65536) 256) in
    let e3 : w / 16777216 % 256 ≡ w / 16777216 = mod-eq_of_lt (omega arith) in
    sum w (w / 256) (w / 65536) (w / 16777216) _ _ _ _ (div-add-mod' w 256) e1 e2 e3

-- four bytes further on
shifted : (a b c d : ℕ) (rest : List ℕ) (m n : ℕ) → m ≡ n + 4 → get_or (a ∷ b ∷ c ∷ d ∷ rest) m 0 ≡ get_or rest n 0
shifted a b c d rest m n e = let e' : m ≡ suc (suc (suc (suc n))) = omega arith in rw e'

shift : (a b c d : ℕ) (rest : List ℕ) (m n : ℕ) → m ≡ n + 4 → word_at rest n ≡ word_at (a ∷ b ∷ c ∷ d ∷ rest) m
shift a b c d rest m n e =
    cc (shifted a b c d rest m n e, shifted a b c d rest (m + 1) (n + 1) (omega arith), shifted a b c d rest (m + 2) (n + 2) (omega arith), shifted a b c d rest (m + 3) (n + 3) (omega arith))

-- the word at 4 * i is the i-th of the words
pub words_at : (i : ℕ) (xs : List ℕ) → 4 * i + 4 ≤ length xs → get_or (words xs) i 0 ≡ word_at xs (4 * i)
unfolding words
words_at i [] h = omega arith
words_at i (a ∷ []) h = omega arith
words_at i (a ∷ b ∷ []) h = omega arith
words_at i (a ∷ b ∷ c ∷ []) h = omega arith
words_at zero (a ∷ b ∷ c ∷ d ∷ rest) h = refl
words_at (suc i) (a ∷ b ∷ c ∷ d ∷ rest) h = words_at i rest (omega arith) ∙ shift a b c d rest (4 * suc i) (4 * i) (omega arith)

-- whole words: a quarter as many
pub length_words : (n : ℕ) (xs : List ℕ) → length xs ≡ 4 * n → length (words xs) ≡ n
unfolding words
length_words zero [] h = refl
length_words (suc n) [] h = absurd (omega arith)
length_words n (a ∷ []) h = absurd (omega arith)
length_words n (a ∷ b ∷ []) h = absurd (omega arith)
length_words n (a ∷ b ∷ c ∷ []) h = absurd (omega arith)
length_words zero (a ∷ b ∷ c ∷ d ∷ rest) h = absurd (omega arith)
length_words (suc n) (a ∷ b ∷ c ∷ d ∷ rest) h = ap suc (length_words n rest (omega arith))

pub length_bytes_of : (ws : List ℕ) → length (bytes_of ws) ≡ 4 * length ws
unfolding bytes_of
length_bytes_of [] = refl
length_bytes_of (w ∷ ws) = omega (arith, length_bytes_of ws)
