-- `write_words::put_type` meets its contract. The loop's invariant: the first i words of the run are written. Assumes nothing.
use Prim.Native.Nat.{ℕ, ◌-◌, ◌≤◌}
use mathlib.Core.Path.{◌≡◌}
use mathlib.Core.List.{List}
use lib.ListN.{length, take}
use Rattle.type_words.specs.Runs.{Runs}
use Rattle.write_words.specs.Written.{Written}
use Rattle.write_words.proofs.put_type.Given as goal

abbrev pub invariant-loop-i : goal.invariant-loop-i
invariant-loop-i l = (l.i ≤ l.n) × (length l.out ≡ length l.initial.out) × ((ws : List ℕ) → Runs l.ty ws → Written l.limit l.to (take l.i ws) l.initial.out l.next l.out)
