-- What an answer wrote, and two answers that are accepted together.
use Rattle.std.specs.Prelude.{ℕ, ◌≡◌, ◌↔◌, List, take}
use Rattle.rules.specs.Answer.{Answer}

-- the bytes that an accepted answer wrote, from the output's start
abbrev pub written : Answer → List ℕ
written a = take a.size a.output

-- both accepted with the same bytes and visits, or neither; and 24 in both with the same need, or in neither
pub record Together (a b : Answer) : Type 0 where
  pub accepted : (a.number ≡ 0) ↔ (b.number ≡ 0)
  pub bytes : a.number ≡ 0 → written a ≡ written b
  pub visits : a.number ≡ 0 → a.visits ≡ b.visits
  pub too_short : (a.number ≡ 24) ↔ (b.number ≡ 24)
  pub need : a.number ≡ 24 → a.size ≡ b.size
