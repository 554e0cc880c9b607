-- `literal_fits::int_in` meets its contract. Assumes nothing.
use mathlib.Core.Path.{ap, ◌∙◌}
use lib.IntN.{ℤ}
use Rattle.rules.specs.Fits.{takes}
use Rattle.literal_fits.specs.Ranges.{range}
use Rattle.literal_fits.proofs.Widths.{signed_mag}
use Rattle.literal_fits.proofs.int_in.Goals as goal

pub returns : goal.returns
returns c = c.takes.ensures ∙ ap (λ (z : ℤ). takes (range c.args.taken) z) (signed_mag c.args.bits _ c.magnitude.ensures)
