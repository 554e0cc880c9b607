-- `replay_verdict::replay` meets its contract. Assumes nothing.
use native.Mathlib.Omega.{arith}
use Rattle.lines.proofs.Tells.{tells_then}
use Rattle.replay_verdict.specs.ReplayText.{replay_text}
use Rattle.replay_verdict.proofs.replay.Goals as goal

pub returns : goal.returns
unfolding replay_text
returns c = tells_then (omega arith) c.replay_call-next.ensures c.replay_call.ensures
