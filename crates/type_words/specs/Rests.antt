-- A type at rest in a row of a table: its words, and the note of them.
use Rattle.std.specs.Prelude.{ℕ, ◌<◌, ◌≤◌, ◌≡◌, List, length, get_or}
use Rattle.rules.specs.Syntax.{ResolvedType, run}
use Rattle.rules.specs.Types.{contains_poison}
use Rattle.rules.specs.Good.{Stored}
use Rattle.type_words.specs.Notes.{note}

-- the words begin with those of t, and w notes them
pub record Rests (names : ℕ) (words : List ℕ) (w : ℕ) (t : ResolvedType) : Type 0 where
  pub noted : w ≡ note (length (run t)) (contains_poison t)
  pub room : length (run t) ≤ length words
  pub same : (j : ℕ) → j < length (run t) → get_or (run t) j 0 ≡ get_or words j 0
  pub stored : Stored names t
