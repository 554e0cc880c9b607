-- `replay_told::case::part` meets its contract. Assumes nothing.
use Rattle.lines.proofs.Tells.{tells_none}
use Rattle.replay_told.proofs.case.part.Goals as goal

pub returns-then-same : goal.returns-then-same
returns-then-same c = rw c.if-same.true (tells_none c.requires)
