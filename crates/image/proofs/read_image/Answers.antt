-- `image::read_image` meets its contract. Assumes nothing.
use Rattle.image.proofs.Reading.{settled}
use Rattle.image.proofs.read_image.Goals as goal

pub returns : goal.returns
returns c = rw c.then_some.ensures (settled c.in_ok-l.ensures.1 c.in_ok-l.ensures.2 _ c.check_rows.ensures)
