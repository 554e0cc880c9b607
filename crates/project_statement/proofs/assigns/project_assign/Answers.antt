-- `project_statement::assigns::project_assign` meets its contract. Assumes nothing.
use borrow.Author.Tests.{not-true, not-false}
use Prim.Native.Nat.{ℕ}
use native.Mathlib.Omega.{arith}
use mathlib.Core.Path.{ap, ◌∙◌}
use Rattle.rules.specs.Refusal.{in_function, with_name}
use Rattle.answers.specs.Refusals.{refusal_of}
use Rattle.project_statement.proofs.AssignsLaws.{no_field, unknown, assigned, target_stood, value_stood}
use Rattle.project_statement.proofs.assigns.project_assign.Goals as goal

pub returns-in_default : goal.returns-in_default
returns-in_default c = λ x i t e n s. no_field x t e (c.in_default.ensures x.function 32 t _ (target_stood t e s _ (λ k. c.after-target.ensures (omega arith)))) c.refused.ensures.0 (ap refusal_of c.refused.ensures.1 ∙ c.at.ensures ∙ ap (in_function 19) i.function)

pub returns-then-not-ty : goal.returns-then-not-ty
returns-then-not-ty c = λ x i t e n s. unknown x t e _ (c.in-Some.ensures x.function 32 t _ (target_stood t e s _ (λ k. c.after-target.ensures (omega arith)))) _ _ (c.field_type-ty.ensures _ _ i.fields) (not-true _ c.if-not-ty.true) c.refused-then-not-ty.ensures.0 (ap refusal_of c.refused-then-not-ty.ensures.1 ∙ c.named.ensures ∙ ap (λ (k : ℕ). with_name 17 k c.in-Some.field.0) i.function)

pub project_value-requires : goal.project_value-requires
project_value-requires c = omega (arith, c.out-1.given, c.requires)

pub returns : goal.returns
returns c = λ x i t e n s. assigned x t e _ (c.in-Some.ensures x.function 32 t _ (target_stood t e s _ (λ k. c.after-target.ensures (omega arith)))) _ _ (c.field_type-ty.ensures _ _ i.fields) (not-false _ c.if-not-ty.false) c.put_two-a.ensures (λ o w. c.project_value.ensures x i e n (value_stood t e s _ (λ k. c.after-target.ensures (omega arith)) _ c.skip_expr-value.ensures) o w)
