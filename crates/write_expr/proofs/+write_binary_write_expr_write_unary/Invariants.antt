-- The allowed nesting falls.
use Rattle.std.proofs.Common.{◌+◌, ◌*◌}
use Rattle.write_expr.proofs.+write_binary_write_expr_write_unary.Given as goal

abbrev pub decreases-write_binary : goal.decreases-write_binary
decreases-write_binary l = 2 * l.nest + 1

abbrev pub decreases-write_expr : goal.decreases-write_expr
decreases-write_expr l = 2 * l.nest

abbrev pub decreases-write_unary : goal.decreases-write_unary
decreases-write_unary l = 2 * l.nest + 1
