-- `image_words::count` meets its contract.
use mathlib.Core.Path.{sym}
use Rattle.image_words.proofs.Sections.{length_section}
use Rattle.image_words.proofs.count.Goals as goal

pub returns : goal.returns
returns c = sym (length_section _)
