-- `write_expr_type::foretell` meets its contract. The loop's invariant: what is told of the place is told of the whole. Assumes nothing.
use Rattle.type_words.specs.declared.HeldType.{HeldType}
use Rattle.write_expr_type.specs.Foretells.{Foretells}
use Rattle.write_expr_type.proofs.foretell.Given as goal

abbrev pub invariant-loop-inner : goal.invariant-loop-inner
invariant-loop-inner l = (r : HeldType) → Foretells l.l l.names l.words l.lens l.ctx l.place l.inner r → Foretells l.l l.names l.words l.lens l.ctx l.at l.nest r

abbrev pub decreases-loop-inner : goal.decreases-loop-inner
decreases-loop-inner l = l.inner
