use mathlib.Core.Path.{sym, ◌∙◌}
use native.Mathlib.Omega.{arith}
use borrow.Author.Tests.{not-true, not-false}
use Rattle.image_qualified.proofs.Joined.{joined_long, joined_dotless, joined_other, joined_first}
use Rattle.image_qualified.proofs.is_joined.Goals as goal

pub returns-then-s-end : goal.returns-then-s-end
returns-then-s-end c = let a = c.args in sym (joined_long a.namespace.now a.name.now a.s.now (omega arith))

pub returns-then-s-dot-ne46 : goal.returns-then-s-dot-ne46
returns-then-s-dot-ne46 c = let a = c.args in sym (joined_dotless a.namespace.now a.name.now a.s.now (omega arith))

pub returns-then-not-same_text : goal.returns-then-not-same_text
returns-then-not-same_text c =
    let a = c.args in
    sym (joined_other a.namespace.now a.name.now a.s.now (sym c.same_text.ensures ∙ not-true _ c.if-not-same_text.true-raw))

pub returns : goal.returns
returns c =
    let a = c.args in
    c.same_text-2.ensures
    ∙ sym (joined_first a.namespace.now a.name.now a.s.now (omega arith) (omega arith) (sym c.same_text.ensures ∙ not-false _ c.if-not-same_text.false-raw))
