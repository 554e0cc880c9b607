-- `skip_functions::exprs::expr_node` meets its contract: a place inside a section is far from the greatest number. Assumes nothing.
use native.Mathlib.Omega.{arith}
use Rattle.image_words.proofs.Sections.{length_section}
use Rattle.skip_functions.proofs.exprs.expr_node.Goals as goal

pub overflow_add-at : goal.overflow_add-at
overflow_add-at c = omega (arith, c.requires, length_section c.args.pool.now)

pub overflow_add-at-in-TraitMethodCall : goal.overflow_add-at-in-TraitMethodCall
overflow_add-at-in-TraitMethodCall c = omega (arith, c.requires, length_section c.args.pool.now)
