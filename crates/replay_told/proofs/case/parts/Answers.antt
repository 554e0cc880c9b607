-- `replay_told::case::parts` meets its contract. Assumes nothing.
use Rattle.lines.proofs.Tells.{tells_then}
use Rattle.replay_told.proofs.case.parts.Goals as goal

pub returns : goal.returns
returns c = tells_then c.requires (tells_then c.requires c.part-fields.ensures c.part-output.ensures) c.part.ensures
