-- `literal_fits::uint_fits` meets its contract. Assumes nothing.
use mathlib.Core.Path.{ap, ◌∙◌}
use Rattle.rules.specs.Fits.{Range, takes, uint_fits}
use lib.IntN.{pos}
use Rattle.literal_fits.proofs.uint_fits.Goals as goal

pub returns : goal.returns
returns c names t p = c.uint_in.ensures ∙ (unfold uint_fits in ap (λ (q : Range). takes q (pos c.args.bits)) (c.range_of.ensures names t p))
