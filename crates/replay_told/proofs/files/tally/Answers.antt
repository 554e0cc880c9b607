-- `replay_told::files::tally` meets its contract. Assumes nothing.
use Rattle.lines.proofs.Tells.{tells_then}
use Rattle.replay_told.proofs.files.tally.Goals as goal

pub returns : goal.returns
returns c =
    let p = c.requires in
    tells_then p (tells_then p (tells_then p (tells_then p c.put_bytes-first.ensures c.put_bytes-second.ensures) c.count-third.ensures) c.count-fourth.ensures) c.count.ensures
