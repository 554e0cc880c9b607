-- A number made of a text, and the numbers of all texts.
use Rattle.std.specs.Prelude.{◌≡◌, List, [], ◌∷◌, ℕ, ◌+◌, ◌*◌, ◌%◌, ◌<◌, ◌≤◌, get_or}
use Rattle.image_texts.specs.Rows.{row_text}

unfoldable pub hash_from : ℕ → List ℕ → ℕ
hash_from h [] = h
hash_from h (b ∷ bs) = hash_from (h % 134217728 * 31 + b) bs

unfoldable pub hash_of : List ℕ → ℕ
hash_of xs = hash_from 0 xs

-- the numbers of the texts of the first n rows
abbrev pub Hashes : List ℕ → ℕ → ℕ → List ℕ → Type 0
Hashes image names_start n hs = (i : ℕ) → i < n → get_or hs i 0 ≡ hash_of (row_text image names_start i)

-- no number from n on
abbrev pub Blank : ℕ → List ℕ → Type 0
Blank n hs = (i : ℕ) → n ≤ i → get_or hs i 0 ≡ 0

-- none of the first n numbers is h
abbrev pub Apart : List ℕ → ℕ → ℕ → Type 0
Apart hs n h = (j : ℕ) → j < n → get_or hs j 0 ≡ h → ⊥
