-- `check_types::mismatch::add_return` meets its contract. Assumes nothing.
use native.Mathlib.Omega.{arith}
use Rattle.check_types.proofs.Details.{added_some, added_none}
use Rattle.check_types.proofs.mismatch.add_return.Goals as goal

pub returns-then-t : goal.returns-then-t
returns-then-t c = λ l names o h. added_some names _ _ o h c.if-t.true _ _ l c.word.ensures c.run.ensures.1

pub returns : goal.returns
returns c = λ l names o h. added_none names _ _ o h c.if-t.false _ (c.word-2.ensures (omega arith))
