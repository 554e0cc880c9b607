-- `replay_verdict::replay_call` meets its contract. Assumes nothing.
use Prim.Native.Nat.{ℕ}
use mathlib.Core.Path.{ap}
use Rattle.std.specs.Prelude.{Result}
use Rattle.lines.proofs.Tells.{tells_then, tells_same}
use Rattle.replay_verdict.specs.declared.tally.Tally.{Tally}
use Rattle.replay_verdict.specs.ReplayText.{total_text}
use Rattle.replay_verdict.proofs.replay_call.Goals as goal

pub returns : goal.returns
returns c =
    let r = c.replayed-r.ensures in
    tells_then c.requires r.1 (tells_same (ap (λ (t : Result Tally ℕ). total_text c.args.title.now t) r.0) c.total.ensures)
