-- `literal_fits::below_power` meets its contract. Assumes nothing.
use native.Mathlib.Omega.{arith}
use mathlib.Core.Path.{sym}
use Rattle.literal_fits.proofs.Widths.{shift_zero, all_below}
use Rattle.literal_fits.proofs.below_power.Goals as goal

pub returns-then-k-lt64 : goal.returns-then-k-lt64
returns-then-k-lt64 c = shift_zero c.args.x c.args.k

pub returns : goal.returns
returns c = sym (all_below c.args.x c.args.k (omega arith) (omega arith))
