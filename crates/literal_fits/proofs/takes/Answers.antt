-- `literal_fits::takes` meets its contract. Assumes nothing.
use Rattle.literal_fits.proofs.Widths.{signed_fit, unsigned_fit, any_fit, nothing_fit}
use Rattle.literal_fits.proofs.takes.Goals as goal

pub returns-in-Signed : goal.returns-in-Signed
returns-in-Signed c = signed_fit c.args.negative c.args.n c.in-Signed.is c.shift.ensures c.below_power.ensures

pub returns-in-Unsigned : goal.returns-in-Unsigned
returns-in-Unsigned c = unsigned_fit c.args.negative c.args.n c.in-Unsigned.is c.below_power-in-Unsigned.ensures

pub returns-in-Any : goal.returns-in-Any
returns-in-Any c = any_fit _ c.in-Any.is

pub returns-in-Nothing : goal.returns-in-Nothing
returns-in-Nothing c = nothing_fit _ c.in-Nothing.is
