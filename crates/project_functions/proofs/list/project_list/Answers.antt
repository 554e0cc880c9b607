-- `project_functions::list::project_list` meets its contract. The loop's invariant: those made are written, and the signatures that are left decide. Assumes nothing.
use mathlib.Core.Path.{refl, ◌∙◌}
use native.Mathlib.Omega.{arith}
use borrow.Author.Tests.{not-true, not-false}
use Rattle.project_functions.proofs.ListTurns.{start, turn_here, turn_refused, turn_goes, ended}
use Rattle.project_functions.proofs.list.project_list.Goals as goal

pub loop-i-init : goal.loop-i-init
loop-i-init c = (refl, λ h. start h _ _ _ _ _ _)

pub project_one-f-requires : goal.project_one-f-requires
project_one-f-requires c =
    let h = c.requires.1 in
    (c.requires.0, turn_here h _ _ _ _ _ _ (c.loop-i.invariant.1 h) (omega (arith, c.section_word-count.ensures, h.here.stands.0.is)), omega (arith, c.loop-i.invariant.0, c.put-place.auto.out, c.requires.2))

pub returns-then-not-f : goal.returns-then-not-f
returns-then-not-f c = λ h named impl message s. turn_refused h _ _ _ _ _ _ (c.loop-i.invariant.1 h) (omega (arith, c.section_word-count.ensures, h.here.stands.0.is)) c.name_in-name.ensures c.project_one-f.ensures (not-true _ c.if-not-f.true) named impl message s

pub loop-i-preserved : goal.loop-i-preserved
loop-i-preserved c = (c.project_one-f.auto.out ∙ c.loop-i.invariant.0, λ h. turn_goes h _ _ _ _ _ _ (c.loop-i.invariant.1 h) (omega (arith, c.section_word-count.ensures, h.here.stands.0.is)) c.name_in-name.ensures c.project_one-f.ensures (not-false _ c.if-not-f.false) c.after_asked-next.ensures)

pub returns : goal.returns
returns c = λ h named impl message s. ended h _ _ _ _ _ _ (c.loop-i.invariant.1 h) c.section_word-count.ensures c.put-place.ensures c.loop-i-test.false c.accepted.ensures.0 c.accepted.ensures.1 named impl message s
