-- `lines::answer::put_answer` meets its contract. Assumes nothing.
use mathlib.Core.Path.{sym}
use mathlib.Core.List.{[]}
use native.Mathlib.Omega.{arith}
use Rattle.lines.proofs.Tells.{tells_then, tells_same}
use Rattle.lines.proofs.Lines.{refused_lines, accepted_lines}
use Rattle.lines.proofs.answer.put_answer.Goals as goal

pub returns-then-a-ne0 : goal.returns-then-a-ne0
returns-then-a-ne0 c =
    let a = c.args in
    tells_same (sym (refused_lines a.a a.output.now [] (λ e. c.if-a-ne0.true (omega arith)))) c.put_fields-next.ensures

pub returns : goal.returns
returns c =
    let lines = accepted_lines c.args.a c.args.output.now [] (omega (arith, c.if-a-ne0.false)) in
    tells_same (sym lines) (tells_then c.requires c.put_fields-next.ensures c.put_words.ensures)
