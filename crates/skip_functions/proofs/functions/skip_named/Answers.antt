-- `skip_functions::functions::skip_named` meets its contract. The loop's invariant: what is pending ends where the whole does. Assumes nothing.
use mathlib.Core.Path.{sym}
use native.Mathlib.Omega.{arith}
use Rattle.skip_types.proofs.Pending.{none_left, ended, of_first, turned}
use Rattle.skip_functions.proofs.functions.skip_named.Goals as goal

pub returns-then-count-next : goal.returns-then-count-next
returns-then-count-next c = λ names n h. absurd (of_first (c.loop.invariant names n h) (omega (arith, c.loop-test.true)) (λ p m q. omega (arith, q.name_at.inside, c.if-count-next.true, c.count.ensures)))

pub loop-preserved : goal.loop-preserved
loop-preserved c = λ names n h. turned (c.loop.invariant names n h) (omega (arith, c.loop-test.true)) (λ p m q. none_left (sym (c.skip_type-next.ensures.expressions names p.ty m q.type_at))) (omega arith)

pub returns : goal.returns
returns c = λ names n h. ended (c.loop.invariant names n h) (omega (arith, c.loop-test.false))
