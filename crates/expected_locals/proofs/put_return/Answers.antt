-- `expected_locals::put_return` meets its contract. Assumes nothing.
use native.Mathlib.Omega.{arith}
use borrow.Author.Tests.{not-true, not-false}
use Rattle.expected_locals.proofs.PutParts.{none_written, some_written}
use Rattle.expected_locals.proofs.put_return.Goals as goal

pub returns-then-not-returns : goal.returns-then-not-returns
returns-then-not-returns c rows o h = none_written _ _ rows c.args.returns o h (not-true _ c.if-not-returns.true) c.put.ensures (omega arith)

pub returns : goal.returns
returns c rows o h = some_written _ _ rows c.args.returns o h (not-false _ c.if-not-returns.false) c.put-a.ensures c.put_type.ensures
