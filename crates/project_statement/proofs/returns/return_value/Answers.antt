-- `project_statement::returns::return_value` meets its contract. Assumes nothing.
use borrow.Author.Tests.{not-true, not-false}
use Prim.Native.Nat.{ℕ}
use native.Mathlib.Omega.{arith}
use mathlib.Core.Path.{ap, ◌∙◌}
use mathlib.Core.List.{[], ◌∷◌}
use Rattle.rules.specs.Refusal.{with_detail, in_function}
use Rattle.answers.specs.Refusals.{refusal_of}
use Rattle.project_statement.proofs.ReturnsLaws.{value_unwanted, value_refused, value_early, value_last}
use Rattle.project_statement.proofs.returns.return_value.Goals as goal

pub returns-then-not-returns : goal.returns-then-not-returns
returns-then-not-returns c = λ x i e n s o w ss q. value_unwanted x ss _ _ o w e (not-true _ c.if-not-returns.true) c.return_mismatch.ensures.0 (c.return_mismatch.ensures.1 ∙ ap (λ (k : ℕ). with_detail 22 k (0 ∷ [])) i.function)

pub returns-then-not-r : goal.returns-then-not-r
returns-then-not-r c = λ x i e n s o w ss q. value_refused x ss _ _ o w e (not-false _ c.if-not-returns.false) (c.project_value-r.ensures x i e n s o w) (not-true _ c.if-not-r.true)

pub shape_of-out-then-not-last : goal.shape_of-out-then-not-last
shape_of-out-then-not-last c = omega (arith, c.out-1.given, c.out-2-1.given)

pub returns-then-not-last : goal.returns-then-not-last
returns-then-not-last c = λ x i e n s o w ss q. value_early x ss _ _ o w e (not-false _ c.if-not-returns.false) (c.project_value-r.ensures x i e n s o w) (not-false _ c.if-not-r.false) (q ∙ not-true _ c.if-not-last.true-raw) c.refused.ensures.0 (ap refusal_of c.refused.ensures.1 ∙ c.at.ensures ∙ ap (in_function 23) i.function)

pub returns : goal.returns
returns c = λ x i e n s o w ss q. value_last x ss _ _ o w e (not-false _ c.if-not-returns.false) (c.project_value-r.ensures x i e n s o w) (q ∙ not-false _ c.if-not-last.false-raw) c.put_two-a.ensures
