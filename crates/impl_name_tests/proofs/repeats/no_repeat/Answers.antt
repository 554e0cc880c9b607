-- `impl_name_tests::repeats::no_repeat` meets its contract. The loop's invariant: those that are left, under the names before them, decide. Assumes nothing.
use mathlib.Core.Path.{refl, sym, ap, ◌∙◌}
use Rattle.answers.specs.Refusals.{refusal_of}
use Rattle.impl_name_tests.proofs.NameTests.{none_yet, seen_before, not_seen, none_seen}
use Rattle.impl_name_tests.proofs.repeats.no_repeat.Goals as goal

pub loop-i-init : goal.loop-i-init
loop-i-init c = λ fs h. none_yet _ _ fs h refl

pub returns-then-listed : goal.returns-then-listed
returns-then-listed c = λ fs h. seen_before _ _ (c.loop-i.invariant fs h) c.loop-i-test.true (sym c.listed.ensures ∙ c.if-listed.true) c.refused.ensures.0 (ap refusal_of c.refused.ensures.1 ∙ c.at.ensures)

pub loop-i-preserved : goal.loop-i-preserved
loop-i-preserved c = λ fs h. not_seen _ _ (c.loop-i.invariant fs h) c.loop-i-test.true (sym c.listed.ensures ∙ c.if-listed.false)

pub returns : goal.returns
returns c = λ fs h. none_seen _ _ (c.loop-i.invariant fs h) c.loop-i-test.false c.accepted.ensures.0
