-- `type_tests::is_float` meets its contract, by the laws of the codes. Assumes nothing.
use native.Mathlib.Omega.{arith}
use Rattle.type_tests.proofs.ByCode.{float_held, float_in, float_off}
use Rattle.type_tests.proofs.is_float.Goals as goal

pub returns-in-9 : goal.returns-in-9
returns-in-9 c names t p = float_held p (float_in _ (omega arith) (omega arith))

pub returns-in_default : goal.returns-in_default
returns-in_default c names t p = float_held p (float_off _ (omega arith))

pub returns-in_default-2 : goal.returns-in_default-2
returns-in_default-2 c names t p = float_held p (float_off _ (omega arith))
