-- A row written behind the others.
use Rattle.std.specs.Prelude.{ℕ, ◌+◌, ◌*◌, ◌<◌, ◌≤◌, ◌≡◌, List, length, get_or}
use Rattle.type_words.specs.declared.HeldType.{HeldType}
use Rattle.type_words.specs.Runs.{held_run}

-- row i has the words of h
pub record Filled (before after : List ℕ) (i : ℕ) (h : HeldType) : Type 0 where
  pub size : length after ≡ length before
  pub room : 64 * i + 64 ≤ length before
  pub kept : (j : ℕ) → j < 64 * i → get_or after j 0 ≡ get_or before j 0
  pub copied : (j : ℕ) → j < length (held_run h) → j < 64 → get_or (held_run h) j 0 ≡ get_or after (64 * i + j) 0
