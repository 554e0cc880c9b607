-- `type_tests::is_equality_type` meets its contract, by the laws of the codes. Assumes nothing.
use mathlib.Core.Path.{sym, ◌∙◌}
use Rattle.type_tests.proofs.ByCode.{equality_held, equality_numeric, equality_at, equality_off}
use Rattle.type_tests.proofs.is_equality_type.Goals as goal

pub returns-then-is_numeric : goal.returns-then-is_numeric
returns-then-is_numeric c names t p = equality_held p (equality_numeric _ (sym (c.is_numeric.ensures names t p) ∙ c.if-is_numeric.true))

pub returns-in-0 : goal.returns-in-0
returns-in-0 c names t p = equality_held p (equality_at _ (sym (c.is_numeric.ensures names t p) ∙ c.if-is_numeric.false) (rw c.word.ensures at c.in-0.is))

pub returns-in_default : goal.returns-in_default
returns-in_default c names t p = equality_held p (equality_off _ (sym (c.is_numeric.ensures names t p) ∙ c.if-is_numeric.false) (rw c.word.ensures at c.in_default.in_default-own.rest.1))
