-- `project_statement::assigns::assigned_field` meets its contract. Assumes nothing.
use native.Mathlib.Omega.{arith}
use mathlib.Core.Path.{sym, ◌∙◌}
use Rattle.project_statement.proofs.Targets.{at_none, at_other, at_self}
use Rattle.project_statement.proofs.assigns.assigned_field.Goals as goal

pub returns-then-section_word-ne-FIELD_ACCESS : goal.returns-then-section_word-ne-FIELD_ACCESS
returns-then-section_word-ne-FIELD_ACCESS c = λ f nest e n s. at_none f (λ z. c.if-section_word-ne-FIELD_ACCESS.true (c.section_word.ensures ∙ z)) e s

pub returns-then-section_word-ne-SELF_REF : goal.returns-then-section_word-ne-SELF_REF
returns-then-section_word-ne-SELF_REF c = λ f nest e n s. at_other f (sym c.section_word.ensures ∙ c.if-section_word-ne-FIELD_ACCESS.false) _ (λ i. c.first_part.ensures (omega arith)) (λ z. c.if-section_word-ne-SELF_REF.true (c.section_word-2.ensures ∙ z)) e s

pub returns : goal.returns
returns c = λ f nest e n s. at_self f (sym c.section_word.ensures ∙ c.if-section_word-ne-FIELD_ACCESS.false) _ (λ i. c.first_part.ensures (omega arith)) (sym c.section_word-2.ensures ∙ c.if-section_word-ne-SELF_REF.false) _ c.operand.ensures e s
