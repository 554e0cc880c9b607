-- `exports::export` meets its contract. Assumes nothing.
use native.Mathlib.Omega.{arith}
use Rattle.export_block.proofs.Blocks.{exported, exported_short}
use Rattle.exports.proofs.export.Goals as goal

pub returns-then-answer-lt-ANSWER_WORDS : goal.returns-then-answer-lt-ANSWER_WORDS
returns-then-answer-lt-ANSWER_WORDS c = let a = c.args in exported_short _ a.output.now a.detail.now a.answer.now (omega arith)

pub returns : goal.returns
returns c =
    let a = c.args in
    let call = c.answer-a in
    let put = c.put_answer.ensures in
    exported call.result a.output.now a.detail.now (omega arith) call.ensures put.0 put.1
