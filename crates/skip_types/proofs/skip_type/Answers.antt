-- `skip_types::skip_type` meets its contract. Assumes nothing.
use Rattle.rules.specs.Syntax.{TypeExpr}
use Rattle.skip_types.proofs.Pending.{one_left}
use Rattle.skip_types.proofs.skip_type.Goals as goal

pub returns-clause-resolved : goal.returns-clause-resolved
returns-clause-resolved c = λ names t n h. c.skip_types.ensures names n (one_left (TypeExpr.leaf t) h)

pub returns-clause-expressions : goal.returns-clause-expressions
returns-clause-expressions c = λ names e n h. c.skip_types.ensures names n (one_left e h)
