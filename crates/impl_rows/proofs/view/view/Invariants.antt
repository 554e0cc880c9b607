use mathlib.Core.Path.{◌≡◌}
use lib.ListN.{length}
use Rattle.impl_rows.specs.Given.{Given}
use Rattle.impl_rows.proofs.ViewRows.{Left}
use Rattle.impl_rows.proofs.view.view.Given as goal

abbrev pub invariant-loop-i : goal.invariant-loop-i
invariant-loop-i l = (length l.table ≡ 528) × ((g : Given l.l l.params l.types l.count) → Left g l.i l.next l.table)
