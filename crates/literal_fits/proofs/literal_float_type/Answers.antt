-- `literal_fits::literal_float_type` meets its contract. Assumes nothing.
use mathlib.Core.Path.{refl}
use lib.Dec.{lit<}
use Rattle.rules.specs.Fits.{literal_fits, literal_own}
use Rattle.literal_fits.proofs.literal_float_type.Goals as goal

pub returns : goal.returns
returns c names o m bits = c.literal_type.ensures 2 bits (λ names t p. unfold literal_fits in c.is_float.ensures names t p) (unfold literal_own in refl) (lit< tt) names o m
