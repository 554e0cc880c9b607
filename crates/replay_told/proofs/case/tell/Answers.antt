-- `replay_told::case::tell` meets its contract. Assumes nothing.
use Rattle.lines.proofs.Tells.{tells_then}
use Rattle.replay_told.proofs.case.tell.Goals as goal

pub returns : goal.returns
returns c = tells_then c.requires c.difference-next.ensures c.by_name.ensures
