-- `type_tests::same_type` meets its contract. The loop's invariant: the words passed agree. Assumes nothing.
use native.Mathlib.Omega.{arith}
use mathlib.Core.Path.{ap}
use borrow.Author.Rules.{rules}
use borrow.Author.Count.{below_more}
use lib.ListN.{length}
use Rattle.type_tests.proofs.Equal.{differ, differ_at, agree_at, agree}
use Rattle.type_tests.proofs.same_type.Goals as goal

pub returns-then-n-m : goal.returns-then-n-m
returns-then-n-m c = differ _ _ (λ e. c.if-n-m.true (omega (arith, ap length e)))

pub returns-then-a-i : goal.returns-then-a-i
returns-then-a-i c = differ_at _ _ _ (omega arith) (omega arith) c.if-a-i.true

pub loop-i-preserved : goal.loop-i-preserved
loop-i-preserved c = (search rules, below_more _ _ c.loop-i.invariant.1 (agree_at _ _ _ (omega arith) (omega arith) c.if-a-i.false))

pub returns : goal.returns
returns c = agree _ _ (omega arith) (λ k l. c.loop-i.invariant.1 k (omega arith))
