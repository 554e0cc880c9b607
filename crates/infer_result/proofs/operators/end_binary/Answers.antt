-- `infer_result::operators::end_binary` meets its contract. Assumes nothing.
use mathlib.Core.Path.{sym, ◌∙◌}
use Rattle.infer_result.proofs.Steps.{says_≡}
use Rattle.infer_result.proofs.OperatorsLaws.{binary_takes, binary_refuses}
use Rattle.infer_result.proofs.operators.end_binary.Goals as goal

pub returns-then-operand_allowed : goal.returns-then-operand_allowed
returns-then-operand_allowed c = λ names o t w p x k. says_≡ names x.function _ (binary_takes x _ o _ t k (sym (c.operand_allowed.ensures names t p) ∙ c.if-operand_allowed.true)) (c.ended.ensures names o _ w (c.result_type.ensures names t p) x k)

pub returns : goal.returns
returns c = λ names o t w p x k. says_≡ names x.function _ (binary_refuses x _ o _ t k (sym (c.operand_allowed.ensures names t p) ∙ c.if-operand_allowed.false)) (c.invalid_operator.ensures names t p x.function)
