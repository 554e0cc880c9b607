-- `project_statement::returns::return_mismatch` meets its contract. Assumes nothing.
use native.Mathlib.Omega.{arith}
use mathlib.Core.Path.{ap, ◌∙◌}
use Rattle.answers.specs.Refusals.{refusal_of}
use Rattle.project_outcome.proofs.Refusals.{one_more}
use Rattle.project_statement.proofs.returns.return_mismatch.Goals as goal

pub returns : goal.returns
returns c = (c.refused.ensures.0, ap refusal_of c.refused.ensures.1 ∙ one_more _ _ _ _ c.at.ensures c.word.ensures (omega arith))
