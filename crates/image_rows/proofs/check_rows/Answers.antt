-- `image_rows::check_rows` meets its contract. Assumes nothing.
use borrow.Author.Tests.{not-true, not-false}
use native.Mathlib.Omega.{arith}
use Rattle.image_rows.proofs.RowSteps.{rows_next, rows_stop, rows_done}
use Rattle.image_rows.proofs.check_rows.Goals as goal

pub returns-then-not-check_row : goal.returns-then-not-check_row
returns-then-not-check_row c = rows_stop _ _ _ _ c.loop-i.invariant (omega arith) c.check_row.ensures (not-true _ c.if-not-check_row.true-raw)

pub loop-i-preserved : goal.loop-i-preserved
loop-i-preserved c = rows_next _ _ _ _ c.loop-i.invariant (omega arith) c.check_row.ensures (not-false _ c.if-not-check_row.false-raw)

pub returns : goal.returns
returns c = rows_done _ _ _ _ c.loop-i.invariant (omega arith)
