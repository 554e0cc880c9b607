-- `check_signature::params::check_params` meets its contract. The loop's invariant: the parameters that are left decide. Assumes nothing.
use borrow.Author.Tests.{not-true, not-false}
use Prim.Native.Nat.{◌-◌}
use native.Mathlib.Omega.{arith}
use Rattle.check_signature.proofs.ParamsLaws.{started, done, refusing, turned}
use Rattle.check_signature.proofs.params.check_params.Goals as goal

pub loop-i-init : goal.loop-i-init
loop-i-init c = λ ps es n r w m. started _ _ _ _ _ _ _ ps es _ n r w m

pub returns-then-not-r : goal.returns-then-not-r
returns-then-not-r c = λ ps es n r w m. refusing _ _ _ _ _ _ _ (c.loop-i.invariant ps es n r w m) (omega (arith, c.loop-i-test.true)) _ (λ h. c.after-place.ensures (omega arith)) _ c.hold_type-h.ensures _ c.section_word.ensures _ c.name_at-wanted.ensures _ (λ ns p q. c.local_type-expected.ensures _ ns p q) _ (λ a e x y s t. c.check_param-r.ensures _ a e x y s t) (not-true _ c.if-not-r.true)

pub loop-i-preserved : goal.loop-i-preserved
loop-i-preserved c = λ ps es n r w m. turned _ _ _ _ _ _ _ (c.loop-i.invariant ps es n r w m) (omega (arith, c.loop-i-test.true)) _ (λ h. c.after-place.ensures (omega arith)) _ c.hold_type-h.ensures _ c.section_word.ensures _ c.name_at-wanted.ensures _ (λ ns p q. c.local_type-expected.ensures _ ns p q) _ (λ a e x y s t. c.check_param-r.ensures _ a e x y s t) (not-false _ c.if-not-r.false)

pub returns : goal.returns
returns c = λ ps es n r w m. done _ _ _ _ _ _ _ (c.loop-i.invariant ps es n r w m) (omega (arith, c.loop-i-test.false)) _ c.accepted.ensures.0
