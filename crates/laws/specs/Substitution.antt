-- Visits and runs as an accepted substitution has them.
use Rattle.std.specs.Prelude.{ℕ, ◌≤◌, length}
use Rattle.rules.specs.Syntax.{ResolvedType, run}

-- visits and run as they are accepted
pub record Accepted (v : ℕ) (t : ResolvedType) : Type 0 where
  pub visited : 1 ≤ v
  pub few : v ≤ 1024
  pub short : length (run t) ≤ 64
