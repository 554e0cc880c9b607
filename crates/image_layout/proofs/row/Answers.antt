-- `image_layout::row` meets its contract: a row's words lie before the rows' end. Assumes nothing.
use mathlib.Core.Path.{refl}
use native.Mathlib.Omega.{arith}
use Rattle.image_words.proofs.Sections.{length_section}
use Rattle.image_layout.proofs.Words.{row_is, row_behind, no_row}
use Rattle.image_layout.proofs.row.Goals as goal

pub returns-then-t-i : goal.returns-then-t-i
returns-then-t-i c = no_row _ _ c.if-t-i.true

pub returns-then-words-place : goal.returns-then-words-place
returns-then-words-place c = row_behind _ _ (omega (arith, length_section c.args.t.now.words.now))

pub overflow_mul-result : goal.overflow_mul-result
overflow_mul-result c = omega (arith, length_section c.args.t.now.words.now)

pub overflow_mul-result-2 : goal.overflow_mul-result-2
overflow_mul-result-2 c = omega (arith, length_section c.args.t.now.words.now)

pub slice_bounds-result-end-2 : goal.slice_bounds-result-end-2
slice_bounds-result-end-2 c = omega (arith, length_section c.args.t.now.words.now)

pub returns : goal.returns
returns c =
    let e = length_section c.args.t.now.words.now in
    row_is _ _ (omega arith) _ c.min-len.result _ refl (omega (arith, e)) (omega (arith, e)) (omega arith)
