-- `project_let_tests::check_let` meets its contract. Assumes nothing.
use Rattle.project_outcome.proofs.Passing.{in_order}
use Rattle.project_let_tests.proofs.check_let.Goals as goal

pub returns : goal.returns
returns c = λ rows words lens ps h p s. in_order c.first_refusal.ensures (c.no_local-free.ensures rows words lens ps h) (c.check_value-typed.ensures rows p s)
