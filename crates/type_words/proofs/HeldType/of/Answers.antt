-- `type_words::HeldType::of` meets its contract. Assumes nothing.
use mathlib.Core.Path.{refl}
use Rattle.type_words.proofs.Moved.{filled}
use Rattle.type_words.proofs.HeldType.of.Goals as goal

pub returns : goal.returns
returns c = record { runs = filled _ _ _ c.copy_from_slice.ensures.after refl c.requires; poison = refl }
