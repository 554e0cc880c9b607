-- `literal_fits::literal_uint_type` meets its contract. Assumes nothing.
use mathlib.Core.Path.{refl}
use lib.Dec.{lit<}
use Rattle.rules.specs.Fits.{literal_fits, literal_own}
use Rattle.literal_fits.proofs.literal_uint_type.Goals as goal

pub returns : goal.returns
returns c names o m = c.literal_type.ensures 1 c.args.bits (λ names t p. unfold literal_fits in c.uint_fits.ensures names t p) (unfold literal_own in refl) (lit< tt) names o m
