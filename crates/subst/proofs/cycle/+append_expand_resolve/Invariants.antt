-- Twice the visits left fall at each call, and one more is counted where a node is not read yet.
use Rattle.std.proofs.Common.{◌+◌}
use Rattle.subst.proofs.cycle.+append_expand_resolve.Given as goal

abbrev pub decreases-append : goal.decreases-append
decreases-append l = l.left + l.left + 1

abbrev pub decreases-expand : goal.decreases-expand
decreases-expand l = l.left + l.left + 1

abbrev pub decreases-resolve : goal.decreases-resolve
decreases-resolve l = l.left + l.left
