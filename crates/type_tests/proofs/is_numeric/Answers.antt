-- `type_tests::is_numeric` meets its contract, by the laws of the codes. Assumes nothing.
use native.Mathlib.Omega.{arith}
use Rattle.type_tests.proofs.ByCode.{numeric_held, numeric_in, numeric_sub, numeric_off}
use Rattle.type_tests.proofs.is_numeric.Goals as goal

pub returns-in-16 : goal.returns-in-16
returns-in-16 c names t p = numeric_held p (numeric_sub _ (omega arith))

pub returns-in-1 : goal.returns-in-1
returns-in-1 c names t p = numeric_held p (numeric_in _ (omega arith) (omega arith))

pub returns-in-5 : goal.returns-in-5
returns-in-5 c names t p = numeric_held p (numeric_in _ (omega arith) (omega arith))

pub returns-in-9 : goal.returns-in-9
returns-in-9 c names t p = numeric_held p (numeric_in _ (omega arith) (omega arith))

pub returns-in-11 : goal.returns-in-11
returns-in-11 c names t p = numeric_held p (numeric_in _ (omega arith) (omega arith))

pub returns-in_default : goal.returns-in_default
returns-in_default c names t p = numeric_held p (numeric_off _ (omega arith) (omega arith))

pub returns-in_default-2 : goal.returns-in_default-2
returns-in_default-2 c names t p = numeric_held p (numeric_off _ (omega arith) (omega arith))
