-- `call_answer::answer` meets its contract. Assumes nothing.
use Prim.Native.Nat.{ℕ}
use mathlib.Core.Path.{sym, ap, ◌∙◌}
use Rattle.rules.specs.Refusal.{refusal}
use Rattle.rules.specs.Answer.{refused}
use Rattle.call_answer.specs.Calls.{call_of}
use Rattle.call_answer.proofs.Answered.{answer_is, when_readable, when_closed}
use Rattle.call_answer.proofs.answer.Goals as goal

pub returns-in-Ok : goal.returns-in-Ok
returns-in-Ok c =
    let a = c.args in
    let g = c.in-Ok.ensures.1 in
    c.answer_readable.ensures g.schema g.opens ∙ sym (answer_is a.call a.image.now a.number.0 a.output.now a.detail.now ∙ when_readable (call_of a.call a.number.0) a.image.now a.output.now a.detail.now c.in-Ok.ensures.0 g.read)

pub returns-in-Err : goal.returns-in-Err
returns-in-Err c =
    let a = c.args in
    c.alone.ensures a.detail.now a.output.now
    ∙ ap (λ (k : ℕ). refused (refusal k) a.output.now a.detail.now) c.number.ensures
    ∙ sym (answer_is a.call a.image.now a.number.0 a.output.now a.detail.now ∙ when_closed (call_of a.call a.number.0) a.image.now a.output.now a.detail.now c.in-Err.closed c.in-Err.ensures)
