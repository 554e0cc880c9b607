-- The level falls.
use Rattle.pool_types.proofs.resolved.+check_tree.Given as goal

abbrev pub decreases-check_tree : goal.decreases-check_tree
decreases-check_tree l = l.depth
