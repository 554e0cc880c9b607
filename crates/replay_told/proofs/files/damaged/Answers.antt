-- `replay_told::files::damaged` meets its contract. Assumes nothing.
use Rattle.lines.proofs.Tells.{tells_then}
use Rattle.replay_told.proofs.files.damaged.Goals as goal

pub returns : goal.returns
returns c = tells_then c.requires c.put_bytes-next.ensures c.count.ensures
