-- `lines::text::put_number` meets its contract. Assumes nothing.
use mathlib.Core.Path.{ap}
use Rattle.lines.specs.Decimal.{decimal}
use Rattle.lines.proofs.Tells.{tells_same, tells_then}
use Rattle.lines.proofs.text.put_number.Goals as goal

pub returns : goal.returns
returns c = tells_then c.requires (tells_same (ap decimal c.from.ensures) c.put_decimal-next.ensures) c.put_bytes.ensures
