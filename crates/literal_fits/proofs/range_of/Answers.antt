-- `literal_fits::range_of` meets its contract. Assumes nothing.
use native.Mathlib.Omega.{arith}
use mathlib.Core.Path.{ap, ◌∙◌}
use Rattle.rules.specs.Fits.{Signed, Unsigned}
use Rattle.literal_fits.proofs.ByRange.{range_held, range_at, range_signed, range_unsigned, range_off, past}
use Rattle.literal_fits.proofs.range_of.Goals as goal

pub returns-in-1 : goal.returns-in-1
returns-in-1 c names t p = range_held p (range_at _ 1 _ _ tt (omega arith))

pub returns-in-2 : goal.returns-in-2
returns-in-2 c names t p = range_held p (range_at _ 2 _ _ tt (omega arith))

pub returns-in-3 : goal.returns-in-3
returns-in-3 c names t p = range_held p (range_at _ 3 _ _ tt (omega arith))

pub returns-in-4 : goal.returns-in-4
returns-in-4 c names t p = range_held p (range_at _ 4 _ _ tt (omega arith))

pub returns-in-5 : goal.returns-in-5
returns-in-5 c names t p = range_held p (range_at _ 5 _ _ tt (omega arith))

pub returns-in-6 : goal.returns-in-6
returns-in-6 c names t p = range_held p (range_at _ 6 _ _ tt (omega arith))

pub returns-in-7 : goal.returns-in-7
returns-in-7 c names t p = range_held p (range_at _ 7 _ _ tt (omega arith))

pub returns-in-8 : goal.returns-in-8
returns-in-8 c names t p = range_held p (range_at _ 8 _ _ tt (omega arith))

pub returns-in-9 : goal.returns-in-9
returns-in-9 c names t p = range_held p (range_at _ 9 _ _ tt (omega arith))

pub returns-in-10 : goal.returns-in-10
returns-in-10 c names t p = range_held p (range_at _ 10 _ _ tt (omega arith))

pub returns-in-11 : goal.returns-in-11
returns-in-11 c names t p = range_held p (range_at _ 11 _ _ tt (omega arith))

pub returns-in-12 : goal.returns-in-12
returns-in-12 c names t p = range_held p (range_at _ 12 _ _ tt (omega arith))

pub returns-then-word-eq1 : goal.returns-then-word-eq1
returns-then-word-eq1 c names t p = ap Signed c.word-width.ensures ∙ range_held p (range_signed _ _ _ (omega arith) (omega arith))

pub returns-else-word-eq1 : goal.returns-else-word-eq1
returns-else-word-eq1 c names t p = ap Unsigned c.word-width.ensures ∙ range_held p (range_unsigned _ _ _ (omega arith) (omega arith))

pub returns-in_default : goal.returns-in_default
returns-in_default c names t p = range_held p (range_off _ _ _ (rw c.word.ensures at (past 12 _ c.in_default.in_default-own.rest.0)) (rw c.word.ensures at c.in_default.in_default-own.rest.1))
