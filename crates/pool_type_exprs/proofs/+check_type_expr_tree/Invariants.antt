-- The level falls.
use Rattle.pool_type_exprs.proofs.+check_type_expr_tree.Given as goal

abbrev pub decreases-check_type_expr_tree : goal.decreases-check_type_expr_tree
decreases-check_type_expr_tree l = l.depth
