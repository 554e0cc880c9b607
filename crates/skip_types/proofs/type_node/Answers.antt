-- `skip_types::type_node` meets its contract: a place inside a section is far from the greatest number. Assumes nothing.
use native.Mathlib.Omega.{arith}
use Rattle.image_words.proofs.Sections.{length_section}
use Rattle.skip_types.proofs.type_node.Goals as goal

pub overflow_add-at : goal.overflow_add-at
overflow_add-at c = omega (arith, c.requires, length_section c.args.pool.now)
