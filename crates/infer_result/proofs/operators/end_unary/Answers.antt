-- `infer_result::operators::end_unary` meets its contract. Assumes nothing.
use Prim.Native.Nat.{ℕ}
use mathlib.Core.Path.{sym, subst, ◌∙◌}
use mathlib.Core.List.{◌∷◌}
use Rattle.rules.specs.Syntax.{run}
use Rattle.rules.specs.Refusal.{err, with_detail}
use Rattle.infer_result.specs.Says.{Says}
use Rattle.infer_result.proofs.Steps.{says_≡}
use Rattle.infer_result.proofs.OperatorsLaws.{unary_takes, unary_refuses}
use Rattle.infer_result.proofs.operators.end_unary.Goals as goal

pub returns-then-unary_allowed : goal.returns-then-unary_allowed
returns-then-unary_allowed c = λ l names o t w p x k. says_≡ names x.function _ (unary_takes x _ o _ t k (sym (c.unary_allowed.ensures names t p) ∙ c.if-unary_allowed.true)) (c.ended.ensures names o t w p x k)

pub returns : goal.returns
returns c = λ l names o t w p x k. says_≡ names x.function _ (unary_refuses x _ o _ t k (sym (c.unary_allowed.ensures names t p) ∙ c.if-unary_allowed.false)) (subst (λ (n : ℕ). Says names x.function (err (with_detail 21 x.function (n ∷ run t))) c.invalid_operator.result) (c.unary_number.ensures l) (c.invalid_operator.ensures names t p x.function))
