use mathlib.Core.Path.{sym, ◌∙◌}
use native.Mathlib.Omega.{arith}
use borrow.Author.Tests.{not-true, not-false}
use Rattle.image_texts.proofs.All.{all_none, all_done, all_false, all_more}
use Rattle.image_texts.specs.Rows.{new_row, rows_differ}
use Rattle.image_texts_differ.proofs.all_new.Goals as goal

pub loop-i-init : goal.loop-i-init
loop-i-init c = all_none (new_row _ _)

pub returns-then-not-is_new : goal.returns-then-not-is_new
unfolding rows_differ
returns-then-not-is_new c =
    let l = c.loop-i in
    let a = c.args in
    sym (all_false (new_row a.image.now a.names_start) l.i a.names (omega arith) (sym c.is_new.ensures ∙ not-true _ c.if-not-is_new.true-raw))

pub loop-i-preserved : goal.loop-i-preserved
loop-i-preserved c =
    let l = c.loop-i in
    all_more _ l.i l.invariant (sym c.is_new.ensures ∙ not-false _ c.if-not-is_new.false-raw)

pub returns : goal.returns
unfolding rows_differ
returns c =
    let l = c.loop-i in
    let a = c.args in
    all_done (new_row a.image.now a.names_start) l.i a.names (omega arith) (omega arith) l.invariant
