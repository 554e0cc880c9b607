-- Words copied one by one into an array of 64.
use Rattle.std.specs.Prelude.{ℕ, ◌+◌, ◌<◌, ◌≡◌, List, get_or}

-- the first i words are those from `at` on
abbrev pub Copied : List ℕ → ℕ → List ℕ → ℕ → Type 0
Copied ws at words i = (j : ℕ) → j < i → get_or words j 0 ≡ get_or ws (at + j) 0
