-- `skip_functions::exprs::skip_expr` meets its contract. Assumes nothing.
use Rattle.skip_types.proofs.Pending.{one_left}
use Rattle.skip_functions.proofs.exprs.skip_expr.Goals as goal

pub returns : goal.returns
returns c = λ names strings e n h. c.skip_exprs.ensures names strings n (one_left e h)
