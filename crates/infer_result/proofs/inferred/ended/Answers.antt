-- `infer_result::inferred::ended` meets its contract. Assumes nothing.
use Rattle.infer_result.proofs.Steps.{says_same, says_other, says_free}
use Rattle.infer_result.proofs.inferred.ended.Goals as goal

pub returns-then-same_type : goal.returns-then-same_type
returns-then-same_type c = λ names o t w p x k. says_same names x k _ _ _ o t w p _ c.if-expected.true _ c.same_type.ensures c.if-same_type.true c.accepted.ensures

pub returns-then-expected : goal.returns-then-expected
returns-then-expected c = λ names o t w p x k. says_other names x k _ _ _ o t w p _ c.if-expected.true _ c.same_type.ensures c.if-same_type.false c.type_mismatch.ensures

pub returns : goal.returns
returns c = λ names o t w p x k. says_free names x k _ _ _ o t w p _ c.if-expected.false c.accepted-2.ensures
