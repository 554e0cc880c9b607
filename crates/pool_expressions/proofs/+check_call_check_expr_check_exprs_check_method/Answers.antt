-- What the search leaves: the longest ways through a node, step by step as its reader goes.
use Rattle.rules.specs.ReadBodies.{expr_node}
use Rattle.image_words.proofs.Says.{then, last, below_then}
use Rattle.image_words.proofs.Trees.{expr_then}
use Rattle.pool_expressions.proofs.+check_call_check_expr_check_exprs_check_method.Goals as goal

pub check_expr-returns-in_ok-right-in-Binary : goal.check_expr-returns-in_ok-right-in-Binary
unfolding expr_node
check_expr-returns-in_ok-right-in-Binary t c =
    expr_then _ _ _ c.in_ok-d.ensures.0 c.in_ok-d.ensures.1 c.in_ok-n.ensures c.section_word.ensures c.in-Binary.ensures
    (then c.in_ok-left-in-Binary.ensures (λ _. then c.in_ok-right-in-Binary.ensures (λ _. last _ c.check_expr-in-Binary-2.ensures)))

pub check_method-returns : goal.check_method-returns
unfolding expr_node
check_method-returns t c =
    then c.in_ok-name.ensures (λ _. then c.in_ok-count_at.ensures (λ _.
    below_then _ _ c.in_ok-receiver.ensures c.section_word-count.ensures (then c.in_ok-first.ensures (λ _. last _ c.check_exprs.ensures))))
