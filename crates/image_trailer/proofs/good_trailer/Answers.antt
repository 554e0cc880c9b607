-- `image_trailer::good_trailer` meets its contract. Assumes nothing.
use Rattle.rules.specs.Image.{good_trailer}
use Rattle.image_trailer.proofs.good_trailer.Goals as goal

pub returns : goal.returns
unfolding good_trailer
returns c = cc
