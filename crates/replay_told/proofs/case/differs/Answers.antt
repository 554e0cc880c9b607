-- `replay_told::case::differs` meets its contract. Assumes nothing.
use Rattle.lines.proofs.Tells.{tells_then}
use Rattle.replay_told.specs.Told.{differs_text}
use Rattle.replay_told.proofs.case.differs.Goals as goal

pub returns : goal.returns
unfolding differs_text
returns c =
    let p = c.requires in
    tells_then p (tells_then p (tells_then p (tells_then p c.put_bytes-first.ensures c.put_bytes-second.ensures) c.parts-third.ensures) c.put_bytes-fourth.ensures) c.put_fields.ensures
