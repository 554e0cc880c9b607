-- `lines::answer::put_words` meets its contract: what is left of the words decides. Assumes nothing.
use Prim.Native.Nat.{◌<◌}
use mathlib.Core.Path.{sym, ◌∙◌}
use native.Mathlib.Omega.{arith}
use lib.ListN.{length}
use Rattle.lines.proofs.Tells.{tells_length, tells_inside}
use Rattle.lines.proofs.Lines.{first_words, first_count, first_word, left_more, left_none}
use Rattle.lines.proofs.answer.put_words.Goals as goal

pub loop-i-preserved : goal.loop-i-preserved
loop-i-preserved c =
    let a = c.args in
    let l = c.loop-i in
    let w = c.word_at in
    let put = c.put_number-next.ensures in
    let ws = first_words a.output.now a.size in
    let more : l.i < length ws = omega (arith, first_count a.output.now a.size) in (
      tells_inside put,
      tells_length put ∙ l.invariant.1,
      left_more ws a.at a.text.now l.i w.result l.invariant.0 more (w.ensures ∙ sym (first_word a.output.now a.size l.i more)) put l.invariant.2,
    )

pub returns : goal.returns
returns c =
    let a = c.args in
    let l = c.loop-i in
    left_none (first_words a.output.now a.size) a.at a.text.now l.i l.invariant.0 (omega (arith, first_count a.output.now a.size)) l.invariant.2
