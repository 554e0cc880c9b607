-- `project_function::statement::project_step` meets its contract. Assumes nothing.
use mathlib.Core.Path.{refl, sym, ap, ◌∙◌}
use Rattle.rules.specs.Refusal.{in_function}
use Rattle.answers.specs.Refusals.{refusal_of}
use Rattle.project_let.specs.Agree.{Steps}
use Rattle.project_function.proofs.Passes.{steps_assign, by_let, by_assign, by_other}
use Rattle.project_function.proofs.statement.project_step.Goals as goal

pub returns-then-code-eq-LET : goal.returns-then-code-eq-LET
returns-then-code-eq-LET c = λ f i s n h b. by_let _ _ _ _ f (Steps _ _ _ _ _ _ _ _ _ c.project_let.result) _ (sym c.section_word-code.ensures ∙ c.if-code-eq-LET.true) (λ x t e n s l. c.project_let.ensures f i x t e n s l) s n h b

pub returns-then-code-eq-ASSIGN : goal.returns-then-code-eq-ASSIGN
returns-then-code-eq-ASSIGN c = λ f i s n h b. by_assign _ _ _ _ f (Steps _ _ _ _ _ _ _ _ _ _) _ (sym c.section_word-code.ensures ∙ c.if-code-eq-ASSIGN.true) (λ t e n s. steps_assign _ _ _ _ _ f i t e (c.project_assign-done.ensures f i t e n s) refl) s n h b

pub returns : goal.returns
returns c = λ f i s n h b. by_other _ _ _ _ f (Steps _ _ _ _ _ _ _ _ _ _) _ (λ z. c.if-code-eq-LET.false (c.section_word-code.ensures ∙ z)) (λ z. c.if-code-eq-ASSIGN.false (c.section_word-code.ensures ∙ z)) (record { is = (c.refused-done.ensures.0, ap refusal_of c.refused-done.ensures.1 ∙ c.at.ensures ∙ ap (in_function 15) i.function) }) s n h b
