-- `project_function::project_function` meets its contract. Assumes nothing.
use native.Mathlib.Omega.{arith}
use mathlib.Core.Path.{sym, ap, ◌∙◌}
use Rattle.rules.specs.Refusal.{in_function}
use Rattle.answers.specs.Refusals.{refusal_of}
use Rattle.project_function.proofs.Whole.{is_external, is_block}
use Rattle.project_function.proofs.project_function.Goals as goal

pub returns-then-section_word-eq0 : goal.returns-then-section_word-eq0
returns-then-section_word-eq0 c = λ f i b n h o w. is_external c.args.l.now c.args.at n o f (sym c.section_word.ensures ∙ c.if-section_word-eq0.true) c.refused.ensures.0 (ap refusal_of c.refused.ensures.1 ∙ c.at.ensures ∙ ap (in_function 12) i.function) b h

pub returns : goal.returns
returns c = λ f i b n h o w. is_block c.args.l.now c.args.at n o f (λ z. c.if-section_word-eq0.false (c.section_word.ensures ∙ z)) _ (λ k. c.after-start.ensures (omega arith)) _ c.section_word-count.ensures _ (λ k. c.after.ensures (omega arith)) c.put-next.ensures (λ ss r m l. c.project_statements.ensures f i ss n r m (omega (arith, l, c.requires.4)) o w) b h
