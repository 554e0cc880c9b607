-- `type_tests::is_signed_numeric` meets its contract, by the laws of the codes. Assumes nothing.
use native.Mathlib.Omega.{arith}
use Prim.Native.Nat.{ℕ}
use mathlib.Core.Path.{ap, ◌∙◌}
use lib.Dec.{eqb}
use Rattle.type_tests.proofs.ByCode.{signed_held, signed_in, signed_sub, signed_off}
use Rattle.type_tests.proofs.is_signed_numeric.Goals as goal

pub returns-in-16 : goal.returns-in-16
returns-in-16 c names t p = ap (λ (x : ℕ). eqb x 1) c.word-in-16.ensures ∙ signed_held p (signed_sub _ _ (omega arith))

pub returns-in-5 : goal.returns-in-5
returns-in-5 c names t p = signed_held p (signed_in _ _ (omega arith) (omega arith))

pub returns-in-9 : goal.returns-in-9
returns-in-9 c names t p = signed_held p (signed_in _ _ (omega arith) (omega arith))

pub returns-in-11 : goal.returns-in-11
returns-in-11 c names t p = signed_held p (signed_in _ _ (omega arith) (omega arith))

pub returns-in_default : goal.returns-in_default
returns-in_default c names t p = signed_held p (signed_off _ _ (omega arith) (omega arith))

pub returns-in_default-2 : goal.returns-in_default-2
returns-in_default-2 c names t p = signed_held p (signed_off _ _ (omega arith) (omega arith))
