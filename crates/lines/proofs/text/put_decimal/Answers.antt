-- `lines::text::put_decimal` meets its contract. Assumes nothing.
use mathlib.Core.Path.{ap, ◌∙◌}
use native.Mathlib.Omega.{arith}
use Rattle.lines.specs.Decimal.{decimal}
use Rattle.lines.proofs.Decimal.{decimal_of}
use Rattle.lines.proofs.Tells.{tells_same}
use Rattle.lines.proofs.text.put_decimal.Goals as goal

pub returns : goal.returns
returns c =
    let d = c.decimal-k in
    tells_same (d.ensures.digits ∙ decimal_of _ d.result (omega (arith, c.ranges)) d.ensures.len ∙ ap decimal (omega arith)) c.put_bytes.ensures
