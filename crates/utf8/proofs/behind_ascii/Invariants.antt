-- `utf8::behind_ascii` meets its contract. Assumes nothing.
use Prim.Native.Nat.{◌-◌}
use Rattle.utf8.specs.Ascii.{Begins}
use Rattle.utf8.proofs.behind_ascii.Given as goal

abbrev pub invariant-loop-i : goal.invariant-loop-i
invariant-loop-i l = Begins l.text l.i

abbrev pub decreases-loop-i : goal.decreases-loop-i
decreases-loop-i l = l.n - l.i
