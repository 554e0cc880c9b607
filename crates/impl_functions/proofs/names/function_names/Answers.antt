use native.Mathlib.Omega.{arith}
use lib.ListN.{length-set}
use Rattle.impl_functions.proofs.NameTables.{named, all_filled}
use Rattle.impl_functions.proofs.names.function_names.Goals as goal

pub loop-name-preserved : goal.loop-name-preserved
loop-name-preserved c = (
  simp length-set c.loop-name.invariant.0,
  c.loop-name.invariant.1,
  λ ts n h. let v = c.loop-name.invariant.2 ts n h in
      (named c.args.l.now ts _ v.0 (omega arith) (omega arith) c.name_at.ensures.asked c.after_asked-next.ensures, v.1),
)

pub returns : goal.returns
returns c = λ ts n h. let v = c.loop-name.invariant.2 ts n h in all_filled c.args.l.now ts _ v.0 (omega arith) v.1 c.loop-name.invariant.0 _
