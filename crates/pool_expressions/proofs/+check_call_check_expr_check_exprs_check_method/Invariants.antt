-- The nesting falls; a list of expressions is read one by one.
use Rattle.std.proofs.Common.{◌+◌, ◌*◌, ◌-◌}
use Rattle.rules.specs.ReadBodies.{exprs, expr_tree}
use Rattle.image_words.specs.Verdict.{section_words}
use Rattle.image_words.proofs.Verdict.{Left}
use Rattle.pool_expressions.proofs.+check_call_check_expr_check_exprs_check_method.Given as goal

abbrev pub decreases-check_call : goal.decreases-check_call
decreases-check_call l = 3 * l.nesting + 2

abbrev pub decreases-check_expr : goal.decreases-check_expr
decreases-check_expr l = 3 * l.nesting

abbrev pub decreases-check_exprs : goal.decreases-check_exprs
decreases-check_exprs l = 3 * l.nesting + 1

abbrev pub decreases-check_method : goal.decreases-check_method
decreases-check_method l = 3 * l.nesting + 2

-- what is left from here on is what is left of all
abbrev pub invariant-check_exprs-loop : goal.invariant-check_exprs-loop
invariant-check_exprs-loop l = Left (exprs (l.count - l.counter) (expr_tree l.names l.strings l.nesting)) l.next (exprs l.count (expr_tree l.names l.strings l.nesting)) (section_words l.pool) l.at
