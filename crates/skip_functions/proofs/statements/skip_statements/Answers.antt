-- `skip_functions::statements::skip_statements` meets its contract. The loop's invariant: what is pending ends where the whole does. Assumes nothing.
use mathlib.Core.Path.{sym}
use native.Mathlib.Omega.{arith}
use Rattle.skip_types.proofs.Pending.{none_left, ended, turned}
use Rattle.skip_functions.proofs.statements.skip_statements.Goals as goal

pub loop-preserved : goal.loop-preserved
loop-preserved c = λ names strings n h. turned (c.loop.invariant names strings n h) (omega (arith, c.loop-test.true)) (λ s m q. none_left (sym (c.skip_statement-next.ensures names strings s m q))) (omega arith)

pub returns : goal.returns
returns c = λ names strings n h. ended (c.loop.invariant names strings n h) (omega (arith, c.loop-test.false))
