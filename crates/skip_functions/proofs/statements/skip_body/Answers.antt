-- `skip_functions::statements::skip_body` meets its contract. Assumes nothing.
use native.Mathlib.Omega.{arith}
use Rattle.image_words.proofs.Sections.{length_section}
use Rattle.skip_functions.proofs.StatementsLaws.{body_inside, body_some}
use Rattle.skip_functions.proofs.statements.skip_body.Goals as goal

pub returns-then-count-at : goal.returns-then-count-at
returns-then-count-at c = λ names strings b n h. absurd (omega (arith, body_inside names strings _ _ n b h, c.if-count-at.true, c.count.ensures))

pub returns : goal.returns
returns c = λ names strings b n h. c.skip_statements.ensures names strings n (body_some names strings _ _ n b h _ c.section_word.ensures c.if-section_word-eq0.false _ c.section_word-count.ensures)

pub overflow_add-place-2 : goal.overflow_add-place-2
overflow_add-place-2 c = omega (arith, c.if-count-at.false, c.count.ensures, length_section c.args.pool.now)
