-- `replay_verdict::tally::counted` meets its contract. Assumes nothing.
use native.Mathlib.Omega.{arith}
use Rattle.replay_verdict.proofs.tally.counted.Goals as goal
use Rattle.replay_verdict.proofs.tally.counted.Goals.{then-same, else-same}

pub overflow_add-result-3 : goal.overflow_add-result-3
overflow_add-result-3 c = elim c.if-same.branch [ then-same w ↦ omega arith | else-same w ↦ omega arith ]

pub returns : goal.returns
returns c = elim c.if-same.branch [ then-same w ↦ rw (w.more-is, ← c.same.ensures, w.if-same.true) | else-same w ↦ rw (w.more-is, ← c.same.ensures, w.if-same.false) ]
