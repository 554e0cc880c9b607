-- `project_statement::returns::project_return` meets its contract. Assumes nothing.
use native.Mathlib.Omega.{arith}
use Rattle.project_statement.proofs.ReturnsLaws.{no_value, some_value}
use Rattle.project_statement.proofs.returns.project_return.Goals as goal

pub returns-then-flag-eq0 : goal.returns-then-flag-eq0
returns-then-flag-eq0 c = λ x i v n h o w ss q. no_value _ _ _ _ n _ c.operand-flag.ensures o x ss c.if-flag-eq0.true (c.return_nothing.ensures x i.function _ o w ss q) v h

pub returns : goal.returns
returns c = λ x i v n h o w ss q. some_value _ _ _ _ n _ c.operand-flag.ensures o x ss c.if-flag-eq0.false _ (λ k. c.first_part-value.ensures (omega arith)) (λ e s. c.return_value.ensures x i e n s o w ss q) v h
