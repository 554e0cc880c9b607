-- The allowed nesting falls.
use Rattle.infer_expr.proofs.+infer_expr.Given as goal

abbrev pub decreases-infer_expr : goal.decreases-infer_expr
decreases-infer_expr l = l.nest
