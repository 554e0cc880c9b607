-- `image_words::section_word` meets its contract: the word of the section is the word at its byte.
use native.Mathlib.Omega.{arith}
use mathlib.Core.Path.{◌∙◌}
use Rattle.image_words.proofs.Sections.{length_section, section_at, section_past}
use Rattle.image_words.proofs.section_word.Goals as goal

pub returns-then-count-at : goal.returns-then-count-at
returns-then-count-at c = section_past _ _ (omega (arith, c.count.ensures, length_section c.args.section.now, c.if-count-at.true))

pub returns : goal.returns
returns c = c.whole_word.ensures ∙ section_at _ _ (omega (arith, c.count.ensures, length_section c.args.section.now, c.if-count-at.false))

pub whole_word-requires : goal.whole_word-requires
whole_word-requires c = omega (arith, c.count.ensures, length_section c.args.section.now, c.if-count-at.false)

pub overflow_mul-at : goal.overflow_mul-at
overflow_mul-at c = omega (arith, c.count.ensures, length_section c.args.section.now, c.if-count-at.false)
