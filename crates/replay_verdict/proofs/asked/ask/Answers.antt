-- `replay_verdict::asked::ask` meets its contract. Assumes nothing.
use borrow.Author.Rules.{rules}
use Rattle.replay_verdict.proofs.Verdicts.{asked_verdict}
use Rattle.replay_verdict.proofs.asked.ask.Goals as goal

pub returns : goal.returns
returns c =
    let a = c.args in
    asked_verdict a.file.now a.c a.output.now a.detail.now c.bytes-image.result.now c.bytes-image.ensures c.which_call-call.ensures c.answer-a.ensures (search rules) (search rules) c.judge.ensures
