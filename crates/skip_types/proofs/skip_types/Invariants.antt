-- `skip_types::skip_types` meets its contract. The loop's invariant: what is pending ends where the whole does. Assumes nothing.
use Prim.Native.Nat.{ℕ, ◌+◌, ◌-◌, ◌≤◌}
use lib.ListN.{length}
use Rattle.image_words.specs.Verdict.{section_words}
use Rattle.pool_type_exprs.specs.TypeExprAt.{TypeExprAt}
use Rattle.skip_types.specs.Pending.{Pending}
use Rattle.skip_types.proofs.skip_types.Given as goal

abbrev pub invariant-loop-pending : goal.invariant-loop-pending
invariant-loop-pending l = (l.pending ≤ l.count + l.next) × ((names n : ℕ) → Pending (TypeExprAt names (section_words l.pool)) l.count l.at n → Pending (TypeExprAt names (section_words l.pool)) l.pending l.next n)

abbrev pub decreases-loop-pending : goal.decreases-loop-pending
decreases-loop-pending l = length (section_words l.pool) - l.next
