-- Words that stand at a place, and a tree that is held there: its parts, its words, and that it is good.
use Rattle.std.specs.Prelude.{ℕ, ◌+◌, ◌≡◌, List, ◌++◌, length, drop}

-- the words of a run stand at `at` and end before n
pub record Stands (ws run : List ℕ) (at n : ℕ) : Type 0 where
  pub left : drop at ws ≡ run ++ drop n ws
  pub next : n ≡ at + length run

-- something as the image holds it: where its parts stand, that its words stand there, and that it is good
pub record Held {A : Type 0} (At : A → ℕ → ℕ → Type 0) (words : A → List ℕ) (Good : A → Type 0) (ws : List ℕ) (a : A) (at n : ℕ) : Type 0 where
  pub parts : At a at n
  pub words_at : Stands ws (words a) at n
  pub good : Good a
