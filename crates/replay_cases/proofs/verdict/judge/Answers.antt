-- `replay_cases::verdict::judge` meets its contract. Assumes nothing.
use native.Mathlib.Omega.{arith}
use Rattle.replay_cases.proofs.Judges.{judges}
use Rattle.replay_cases.proofs.verdict.judge.Goals as goal

pub returns : goal.returns
returns c =
    let a = c.args in
    judges a.file.now a.c a.a a.output.now a.detail.now c.same_fields.ensures
    c.bytes.result.now _ c.bytes.ensures (omega arith) c.holds.ensures
    c.bytes-2.result.now _ c.bytes-2.ensures (omega arith) c.holds-2.ensures
