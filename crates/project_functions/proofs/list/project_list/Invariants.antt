-- `project_functions::list::project_list` meets its contract. The loop's invariant: those made are written, and the signatures that are left decide. Assumes nothing.
use Prim.Native.Nat.{◌-◌}
use mathlib.Core.Path.{◌≡◌}
use lib.ListN.{length}
use Rattle.project_functions.specs.Asked.{All}
use Rattle.project_functions.proofs.ListTurns.{Left}
use Rattle.project_functions.proofs.list.project_list.Given as goal

abbrev pub invariant-loop-i : goal.invariant-loop-i
invariant-loop-i l = (length l.out ≡ length l.initial.out) × ((h : All l.l l.params l.at) → Left h l.names l.places l.parts l.limit l.initial.place l.initial.out l.i l.next l.place l.out)
