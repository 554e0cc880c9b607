-- `skip_functions::exprs::skip_exprs` meets its contract. The loop's invariant: what is pending ends where the whole does. Assumes nothing.
use Prim.Native.Nat.{ℕ, ◌-◌}
use lib.ListN.{length}
use Rattle.image_words.specs.Verdict.{section_words}
use Rattle.pool_expressions.specs.ExprAt.{ExprAt}
use Rattle.skip_types.specs.Pending.{Pending}
use Rattle.skip_functions.proofs.exprs.skip_exprs.Given as goal

abbrev pub invariant-loop-pending : goal.invariant-loop-pending
invariant-loop-pending l = (names strings n : ℕ) → Pending (ExprAt names strings (section_words l.pool)) l.count l.at n → Pending (ExprAt names strings (section_words l.pool)) l.pending l.next n

abbrev pub decreases-loop-pending : goal.decreases-loop-pending
decreases-loop-pending l = length (section_words l.pool) - l.next
