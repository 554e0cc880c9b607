-- Little-endian words of a list of bytes.
use Rattle.std.specs.Prelude.{ℕ, ◌+◌, ◌*◌, List, get_or}

-- the word that four bytes make, the lowest first
abbrev pub word4 : ℕ → ℕ → ℕ → ℕ → ℕ
word4 a b c d = a + 256 * b + 65536 * c + 16777216 * d

-- the word at a byte's place; a byte past the end counts as 0
abbrev pub word_at : List ℕ → ℕ → ℕ
word_at xs at = word4 (get_or xs at 0) (get_or xs (at + 1) 0) (get_or xs (at + 2) 0) (get_or xs (at + 3) 0)
