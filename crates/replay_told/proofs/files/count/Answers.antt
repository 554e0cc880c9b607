-- `replay_told::files::count` meets its contract. Assumes nothing.
use Rattle.lines.proofs.Tells.{tells_then}
use Rattle.replay_told.proofs.files.count.Goals as goal

pub returns : goal.returns
returns c = tells_then c.requires c.put_decimal-next.ensures c.put_bytes.ensures
