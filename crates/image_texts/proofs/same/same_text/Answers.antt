use mathlib.Core.Path.{sym, ◌∙◌}
use native.Mathlib.Omega.{arith}
use borrow.Author.Rules.{rules}
use Rattle.image_texts.proofs.SameLaws.{same_long, same_next, same_apart, same_end}
use Rattle.image_texts.proofs.same.same_text.Goals as goal

pub returns-then-a-b : goal.returns-then-a-b
returns-then-a-b c = sym (same_long _ _ c.if-a-b.true)

pub returns-then-byte-b : goal.returns-then-byte-b
returns-then-byte-b c = sym (same_apart _ _ c.loop-k.k c.if-byte-b.true)

pub loop-k-preserved : goal.loop-k-preserved
loop-k-preserved c =
    let l = c.loop-k in
    let a = c.args in
    (search rules, sym (same_next a.a.now a.b.now l.k (omega arith) (omega arith) c.if-byte-b.false) ∙ l.invariant.1)

pub returns : goal.returns
returns c =
    let l = c.loop-k in
    let a = c.args in
    sym (same_end a.a.now a.b.now l.k (omega arith) (omega arith)) ∙ l.invariant.1
