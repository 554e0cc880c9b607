-- `replay_verdict::asked::answer` meets its contract. Assumes nothing.
use Rattle.replay_verdict.proofs.asked.answer.Goals as goal

pub returns-in-Projection : goal.returns-in-Projection
returns-in-Projection c = rw c.in-Projection.is c.project_impl.ensures

pub returns-in-Signatures : goal.returns-in-Signatures
returns-in-Signatures c = rw c.in-Signatures.is c.expected_signatures.ensures
