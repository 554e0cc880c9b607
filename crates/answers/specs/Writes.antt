-- Words written one behind the other into an output, as far as they fit it.
use Rattle.std.specs.Prelude.{ℕ, ◌+◌, ◌*◌, ◌≡◌, List, length}
use Rattle.words.specs.Puts.{puts}

-- some words from `to` on; the next word goes to `next`
pub record Writes (ws : List ℕ) (to next : ℕ) (old new : List ℕ) : Type 0 where
  pub place : next ≡ to + 4 * length ws
  pub bytes : new ≡ puts (length old) to ws old
