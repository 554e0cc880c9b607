-- `project_let::written::written_type` meets its contract. Assumes nothing.
use native.Mathlib.Omega.{arith}
use mathlib.Core.Path.{sym, ◌∙◌}
use Rattle.project_let.proofs.WantedLaws.{wanted_none, wanted_some}
use Rattle.project_let.proofs.written.written_type.Goals as goal

pub returns-then-section_word-eq0 : goal.returns-then-section_word-eq0
returns-then-section_word-eq0 c = λ t n w. wanted_none _ _ _ _ (sym c.section_word.ensures ∙ c.if-section_word-eq0.true) c.none-ty.ensures (λ i. c.after-next.ensures (omega arith)) t n w

pub returns : goal.returns
returns c = λ t n w. wanted_some _ _ _ _ (λ z. c.if-section_word-eq0.false (c.section_word.ensures ∙ z)) (λ i. c.after-next.ensures (omega arith)) c.hold_type-h.result c.hold_type-h.ensures c.some-ty.ensures t n w
