-- `utf8::behind_ascii` meets its contract. Assumes nothing.
use native.Mathlib.Omega.{arith}
use borrow.Author.Tests.{not-false}
use Rattle.utf8.proofs.AsciiLaws.{eight_further}
use Rattle.utf8.proofs.behind_ascii.Goals as goal

pub loop-i-preserved : goal.loop-i-preserved
loop-i-preserved c = eight_further c.args.text.now c.loop-i.i c.loop-i.invariant (omega arith) c.eight_ascii.ensures (not-false _ c.if-not-eight_ascii.false-raw)
