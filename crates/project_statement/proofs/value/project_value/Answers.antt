-- `project_statement::value::project_value` meets its contract. Assumes nothing.
use Rattle.project_statement.proofs.Values.{value_refused, value_written}
use Rattle.project_statement.proofs.value.project_value.Goals as goal

pub returns-then-r-ne0 : goal.returns-then-r-ne0
returns-then-r-ne0 c = λ x i e n s o w. value_refused x e o _ _ _ (c.infer_expr-r.ensures x i e n s o w) c.if-r-ne0.true i.function c.refuse_value.ensures

pub returns : goal.returns
returns c = λ x i e n s o w. value_written x e o _ _ _ (c.infer_expr-r.ensures x i e n s o w) c.if-r-ne0.false (λ v q t. c.write_expr-next.ensures x i e n s o _ v q t) c.accepted.ensures.0 c.accepted.ensures.1
