use mathlib.Core.Path.{◌≡◌}
use Prim.Native.Nat.{◌+◌, ◌*◌, ◌≤◌}
use lib.ListN.{length, take}
use Rattle.words.specs.Puts.{puts}
use Rattle.answers.proofs.output.put_words.Given as goal

abbrev pub invariant-loop-w : goal.invariant-loop-w
invariant-loop-w l = (l.w-index ≤ length l.run) × (l.next ≡ l.at + 4 * l.w-index) × (l.out ≡ puts (length l.initial.out) l.at (take l.w-index l.run) l.initial.out) × (length l.out ≡ length l.initial.out)
