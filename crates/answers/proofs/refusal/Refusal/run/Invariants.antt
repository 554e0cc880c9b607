-- `answers::refusal::Refusal::run` meets its contract: the words so far are the run's first.
use Prim.Native.Nat.{◌+◌, ◌≤◌}
use lib.ListN.{length}
use Rattle.answers.specs.Refusals.{detail_of}
use Rattle.answers.proofs.Details.{SoFar}
use Rattle.answers.proofs.refusal.Refusal.run.Given as goal

abbrev pub invariant-loop-w : goal.invariant-loop-w
invariant-loop-w l = length (detail_of l.initial.r) + length l.w-items ≤ 131 → SoFar l.initial.r l.w-items l.w-index l.r
