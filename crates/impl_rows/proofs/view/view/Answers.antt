use borrow.Author.Rules.{rules}
use Prim.Native.Nat.{◌-◌}
use mathlib.Core.Path.{◌∙◌}
use native.Mathlib.Omega.{arith}
use Rattle.image_words.proofs.Sections.{length_section}
use Rattle.impl_rows.proofs.ViewRows.{start, name_inside, goes, ended}
use Rattle.impl_rows.proofs.view.view.Goals as goal

pub loop-i-init : goal.loop-i-init
loop-i-init c = (search rules, λ g. start g _)

pub overflow_add-params : goal.overflow_add-params
overflow_add-params c = omega (arith, name_inside c.requires (c.loop-i.invariant.1 c.requires) (omega arith), length_section c.args.l.now.pool.now)

pub loop-i-preserved : goal.loop-i-preserved
loop-i-preserved c = (c.write_row.ensures.size ∙ c.loop-i.invariant.0, λ g. goes g (c.loop-i.invariant.1 g) (omega arith) c.loop-i.invariant.0 c.hold_type-h.ensures c.section_word.ensures c.write_row.ensures)

pub returns : goal.returns
returns c = λ g. ended g (c.loop-i.invariant.1 g) (omega arith) c.loop-i.invariant.0
