-- `project_let_tests::check_value` meets its contract. Assumes nothing.
use Rattle.project_let_tests.proofs.LetTests.{value_refused, value_passes}
use Rattle.project_let_tests.proofs.check_value.Goals as goal

pub returns-then-r-ne0 : goal.returns-then-r-ne0
returns-then-r-ne0 c = λ rows p h. value_refused rows _ _ _ p h c.if-r-ne0.true c.refuse_value.ensures

pub returns : goal.returns
returns c = λ rows p h. value_passes rows _ _ _ p h c.if-r-ne0.false c.accepted.ensures.0
