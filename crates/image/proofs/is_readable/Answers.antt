-- `image::is_readable` meets its contract. Assumes nothing.
use mathlib.Core.Path.{◌∙◌}
use Rattle.image.proofs.Reading.{some_readable}
use Rattle.image.proofs.is_readable.Goals as goal

pub returns : goal.returns
returns c = c.is_some.ensures ∙ some_readable _ _ c.read_image.ensures
