-- `literal_fits::int_fits` meets its contract. Assumes nothing.
use mathlib.Core.Path.{ap, ◌∙◌}
use Rattle.rules.specs.Fits.{Range, takes, int_of, int_fits}
use Rattle.literal_fits.proofs.int_fits.Goals as goal

pub returns : goal.returns
returns c names t p = c.int_in.ensures ∙ (unfold int_fits in ap (λ (q : Range). takes q (int_of c.args.bits)) (c.range_of.ensures names t p))
