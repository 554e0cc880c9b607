-- So many things that are still to be gone past, one behind the other.
use Rattle.std.specs.Prelude.{ℕ, ◌≡◌, List, length}
use Rattle.image_words.specs.Gives.{Row}

-- p things stand from `at` on, each by Q, and end before n
pub record Pending {A : Type 0} (Q : A → ℕ → ℕ → Type 0) (p at n : ℕ) : Type 0 where
  pub things : List A
  pub many : length things ≡ p
  pub row : Row Q things at n
