-- `call_answer::answer_readable` meets its contract: one pass answers, or a second one writes. Assumes nothing.
use borrow.Author.Rules.{rules}
use native.Mathlib.Omega.{arith}
use Rattle.answers.proofs.Calls.{is_accepted}
use Rattle.call_finish.proofs.Again.{accepted_again, written_again}
use Rattle.call_answer.specs.Calls.{call_of}
use Rattle.call_answer.proofs.Splits.{fits}
use Rattle.call_answer.proofs.answer_readable.Goals as goal

pub finish-requires : goal.finish-requires
finish-requires c =
    let p = c.requires.1 in
    (search rules, λ y. fits c.args.call p.opened c.args.number.0 (is_accepted (c.pass-m.ensures p.schema p.opened) y))

pub returns-in-Some : goal.returns-in-Some
returns-in-Some c = λ s o. let a = c.args in c.in-Some.ensures.answered (call_of a.call a.number.0 s) _ (c.pass-m.ensures s o)

pub overflow_cast-w : goal.overflow_cast-w
overflow_cast-w c =
    let p = c.requires.1 in
    omega (arith, fits c.args.call p.opened c.args.number.0 (accepted_again (c.pass-m.ensures p.schema p.opened) c.in_default.ensures (c.pass-w.ensures p.schema p.opened)))

pub returns : goal.returns
returns c = λ s o. written_again (c.pass-m.ensures s o) c.in_default.ensures (c.pass-w.ensures s o) c.accept.result c.accept.ensures
