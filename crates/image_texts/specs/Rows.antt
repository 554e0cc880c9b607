-- The texts of name rows, as parts of the image: when they all differ, and which row has a text.
use Rattle.std.specs.Prelude.{ℕ, zero, suc, ◌+◌, ◌*◌, Bool, true, false, not, List, ◌∷◌, ◌++◌, take, drop}
use Rattle.rules.specs.Words.{NONE, same}
use Rattle.words.specs.Words.{word_at}
use Rattle.image_texts.specs.All.{all_below}

-- the text of a row: the row's first word says where it starts, the second how long it is
unfoldable pub row_text : List ℕ → ℕ → ℕ → List ℕ
row_text image names_start i = take (word_at image (names_start + 16 * i + 4)) (drop (word_at image (names_start + 16 * i)) image)

-- no earlier row has the text of row i
unfoldable pub new_row : List ℕ → ℕ → ℕ → Bool
new_row image names_start i = all_below i (λ j. not (same (row_text image names_start j) (row_text image names_start i)))

-- no two of so many rows have one text
unfoldable pub rows_differ : List ℕ → ℕ → ℕ → Bool
rows_differ image names_start names = all_below names (new_row image names_start)

-- the first number from i on that passes a test, of so many; or NONE
unfoldable pub first_from : (ℕ → Bool) → ℕ → ℕ → ℕ
first_from p zero i = NONE
first_from p (suc left) i = elim (p i) [ true ↦ i | false ↦ first_from p left (suc i) ]

-- the first of so many rows with this text, or NONE
unfoldable pub find_row : List ℕ → ℕ → ℕ → List ℕ → ℕ
find_row image names_start names t = first_from (λ i. same t (row_text image names_start i)) names 0

-- a namespace's text, a dot, a name's text
unfoldable pub qualified_text : List ℕ → ℕ → ℕ → ℕ → List ℕ
qualified_text image names_start s x = row_text image names_start s ++ 46 ∷ row_text image names_start x
