-- `project_statement::parts::skip_statement` meets its contract. Assumes nothing.
use Rattle.project_statement.proofs.parts.skip_statement.Goals as goal

pub returns : goal.returns
returns c = λ s n h. c.skip_statement.ensures _ _ s n h.parts
