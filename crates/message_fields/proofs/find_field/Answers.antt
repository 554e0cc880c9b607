-- `message_fields::find_field` meets its contract. The loop's invariant: the fields that are left, and the last so far. Assumes nothing.
use Prim.Native.Nat.{◌-◌}
use native.Mathlib.Omega.{arith}
use Rattle.message_fields.proofs.Finds.{started, turned, done}
use Rattle.message_fields.proofs.find_field.Goals as goal

pub loop-init : goal.loop-init
loop-init c = λ rows ps n f. started rows _ _ ps _ n f _ _ c.section_word-count.ensures (λ h. c.after-next.ensures (omega arith))

pub loop-preserved : goal.loop-preserved
loop-preserved c = λ rows ps n f. turned rows _ _ (c.loop.invariant rows ps n f) c.loop-test.true _ _ (λ h. c.after-place.ensures (omega arith)) c.section_word.ensures _ (λ t m. c.skip_type-next.ensures.resolved rows t m) c.pick-best.ensures

pub returns : goal.returns
returns c = λ ps n f. done _ _ _ (c.loop.invariant _ ps n f) c.loop-test.false
