-- `impl_functions::names::own_names` meets its contract. The loop's invariant: the names in the table, then those that are left. Assumes nothing.
use native.Mathlib.Omega.{arith}
use lib.ListN.{length-set}
use Rattle.impl_functions.proofs.NameTables.{own_named, all_own}
use Rattle.impl_functions.proofs.names.own_names.Goals as goal

pub loop-i-preserved : goal.loop-i-preserved
loop-i-preserved c = (
  simp length-set c.loop-i.invariant.0,
  omega arith,
  λ fs h. own_named c.args.l.now fs _ _ (c.loop-i.invariant.2 fs h) c.loop-i-test.true (omega (arith, c.requires)) c.name_at.ensures.own,
)

pub returns : goal.returns
returns c = λ fs h. all_own c.args.l.now fs _ _ (c.loop-i.invariant.2 fs h) c.loop-i-test.false c.loop-i.invariant.1
