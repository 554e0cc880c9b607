use mathlib.Core.Path.{sym, ◌∙◌}
use Rattle.impl_target.proofs.TargetRows.{not_named, to_message, to_another}
use Rattle.impl_target.proofs.target_message.Goals as goal

pub returns-then-section_word-ne-NAMED : goal.returns-then-section_word-ne-NAMED
returns-then-section_word-ne-NAMED c = λ s o t n q. not_named o t _ n q (λ e. c.if-section_word-ne-NAMED.true (c.section_word.ensures ∙ e))

pub returns-in-Message : goal.returns-in-Message
returns-in-Message c =
    λ s o t n q.
    to_message o t _ n q (sym c.section_word.ensures ∙ c.if-section_word-ne-NAMED.false) c.after.ensures c.section_word-d.ensures _ c.definition_row-row.ensures c.in-Message.is

pub returns-in_default : goal.returns-in_default
returns-in_default c =
    λ s o t n q.
    to_another o t _ n q (sym c.section_word.ensures ∙ c.if-section_word-ne-NAMED.false) c.after.ensures c.section_word-d.ensures _ c.definition_row-row.ensures c.in_default.not-Message
