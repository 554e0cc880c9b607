-- `literal_fits::magnitude` meets its contract. Assumes nothing.
use native.Mathlib.Omega.{arith}
use Rattle.literal_fits.proofs.Widths.{positive, negative}
use Rattle.literal_fits.proofs.magnitude.Goals as goal

pub returns-then-bits-lt-NEGATIVE : goal.returns-then-bits-lt-NEGATIVE
returns-then-bits-lt-NEGATIVE c = positive _ (omega arith)

pub returns-else-bits-lt-NEGATIVE : goal.returns-else-bits-lt-NEGATIVE
returns-else-bits-lt-NEGATIVE c = negative _ (omega arith)
