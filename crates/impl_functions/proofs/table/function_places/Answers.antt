use native.Mathlib.Omega.{arith}
use lib.ListN.{length-set}
use Rattle.impl_functions.proofs.PlaceTable.{placed, all_filled}
use Rattle.impl_functions.proofs.table.function_places.Goals as goal

pub loop-place-preserved : goal.loop-place-preserved
loop-place-preserved c = (
  simp length-set c.loop-place.invariant.0,
  c.loop-place.invariant.1,
  λ fs n h. let v = c.loop-place.invariant.2 fs n h in
      (placed _ fs _ v.0 (omega arith) (omega arith) c.after_function-next.ensures, v.1),
)

pub returns : goal.returns
returns c = λ fs n h. let v = c.loop-place.invariant.2 fs n h in all_filled _ fs _ v.0 (omega arith) v.1 c.loop-place.invariant.0 _
