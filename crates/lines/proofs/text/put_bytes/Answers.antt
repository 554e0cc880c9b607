-- `lines::text::put_bytes` meets its contract. Assumes nothing.
use native.Mathlib.Omega.{arith}
use lib.Seq.{length-take-le}
use Rattle.lines.proofs.Tells.{tells_cut, laid}
use Rattle.lines.proofs.text.put_bytes.Goals as goal

pub returns : goal.returns
returns c =
    let n = c.min-n in
    let whole = length-take-le n.result c.args.bytes.now (omega (arith, n.ensures)) in
    tells_cut c.requires n.ensures (laid c.args.at n.result c.args.text.now (omega (arith, n.ensures)) c.copy_from_slice.ensures.after whole)
