-- `utf8::begin` meets its contract, row by row. Assumes nothing.
use mathlib.Core.Path.{refl}
use native.Mathlib.Omega.{arith}
use Rattle.utf8.proofs.Table.{in_row, in_no_row, no_row_low, no_row_high}
use Rattle.utf8.proofs.begin.Goals as goal

pub returns-then-first-lt194 : goal.returns-then-first-lt194
returns-then-first-lt194 c = in_no_row _ (no_row_low _ (omega arith) (omega arith))

pub returns : goal.returns
returns c = in_no_row _ (no_row_high _ (omega arith))

pub returns-then-first-lt128 : goal.returns-then-first-lt128
returns-then-first-lt128 c = in_row 0 refl (omega arith) (omega arith) c.due_bytes.ensures

pub returns-then-first-lt224 : goal.returns-then-first-lt224
returns-then-first-lt224 c = in_row 1 refl (omega arith) (omega arith) c.due_bytes-then-first-lt224.ensures

pub returns-then-first-lt225 : goal.returns-then-first-lt225
returns-then-first-lt225 c = in_row 2 refl (omega arith) (omega arith) c.due_bytes-then-first-lt225.ensures

pub returns-then-first-lt237 : goal.returns-then-first-lt237
returns-then-first-lt237 c = in_row 3 refl (omega arith) (omega arith) c.due_bytes-then-first-lt237.ensures

pub returns-then-first-lt238 : goal.returns-then-first-lt238
returns-then-first-lt238 c = in_row 4 refl (omega arith) (omega arith) c.due_bytes-then-first-lt238.ensures

pub returns-then-first-lt240 : goal.returns-then-first-lt240
returns-then-first-lt240 c = in_row 5 refl (omega arith) (omega arith) c.due_bytes-then-first-lt240.ensures

pub returns-then-first-lt241 : goal.returns-then-first-lt241
returns-then-first-lt241 c = in_row 6 refl (omega arith) (omega arith) c.due_bytes-then-first-lt241.ensures

pub returns-then-first-lt244 : goal.returns-then-first-lt244
returns-then-first-lt244 c = in_row 7 refl (omega arith) (omega arith) c.due_bytes-then-first-lt244.ensures

pub returns-then-first-lt245 : goal.returns-then-first-lt245
returns-then-first-lt245 c = in_row 8 refl (omega arith) (omega arith) c.due_bytes-then-first-lt245.ensures
