-- `project_let_tests::no_local` meets its contract. Assumes nothing.
use native.Mathlib.Omega.{arith}
use mathlib.Core.Path.{ap, ◌∙◌}
use Rattle.answers.specs.Refusals.{refusal_of}
use Rattle.project_let_tests.proofs.LetTests.{local_seen, local_free}
use Rattle.project_let_tests.proofs.no_local.Goals as goal

pub returns-then-row-count : goal.returns-then-row-count
returns-then-row-count c = λ rows words lens ps h. local_seen (c.find_local-row.ensures rows words lens ps h) _ _ (omega (arith, c.if-row-count.true)) c.refused.ensures.0 (ap refusal_of c.refused.ensures.1 ∙ c.named.ensures)

pub returns : goal.returns
returns c = λ rows words lens ps h. local_free (c.find_local-row.ensures rows words lens ps h) _ _ (omega (arith, c.if-row-count.false)) c.accepted.ensures.0
