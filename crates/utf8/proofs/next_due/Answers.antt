-- `utf8::next_due` meets its contract. Assumes nothing.
use mathlib.Core.Path.{sym, ◌∙◌}
use native.Mathlib.Omega.{arith}
use borrow.Author.Rules.{rules}
use Rattle.utf8.proofs.Walk.{due_first, due_inside, due_outside}
use Rattle.utf8.proofs.next_due.Goals as goal

pub returns-then-d-eq0 : goal.returns-then-d-eq0
returns-then-d-eq0 c = record { is = c.begin.ensures.is ∙ sym (due_first _ _ _ _ c.if-d-eq0.true) }

pub returns-then-contains : goal.returns-then-contains
returns-then-contains c =
    let d = c.args.d in
    record { is = c.due_bytes.ensures.is ∙ sym (due_inside d.left d.least d.most c.args.byte (omega arith) (search rules) (search rules)) }

pub returns : goal.returns
returns c = let d = c.args.d in record { is = sym (due_outside d.left d.least d.most c.args.byte (omega arith) (search rules)) }
