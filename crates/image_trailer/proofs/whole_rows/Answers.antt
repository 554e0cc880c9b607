-- `image_trailer::whole_rows` meets its contract. Assumes nothing.
use Rattle.rules.specs.Image.{whole_rows}
use Rattle.image_trailer.proofs.whole_rows.Goals as goal

pub returns : goal.returns
unfolding whole_rows
returns c = rw (← c.saturating_sub-bytes.ensures)
