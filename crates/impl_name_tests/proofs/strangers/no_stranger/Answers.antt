-- `impl_name_tests::strangers::no_stranger` meets its contract. The loop's invariant: those that are left decide. Assumes nothing.
use mathlib.Core.Path.{ap, ◌∙◌}
use native.Mathlib.Omega.{arith}
use borrow.Author.Rules.{rules}
use Rattle.std.proofs.Common.{tests}
use Rattle.answers.specs.Refusals.{refusal_of}
use Rattle.impl_name_tests.proofs.NameTests.{asked_names, not_known, known, all_known}
use Rattle.impl_name_tests.proofs.strangers.no_stranger.Goals as goal

pub returns-then-not-listed : goal.returns-then-not-listed
returns-then-not-listed c =
    λ ts m k fs h.
    not_known c.args.l.now _ _ _ (c.loop-place.invariant ts m k fs h) (omega arith) c.name_at-name.ensures.own
    (asked_names c.args.l.now ts m _ k c.section_word.ensures c.few-known.ensures.0 (c.function_names-names.ensures ts m k)) c.listed.ensures (search (rules, tests)) c.refused.ensures.0 (ap refusal_of c.refused.ensures.1 ∙ c.at.ensures)

pub loop-place-preserved : goal.loop-place-preserved
loop-place-preserved c =
    λ ts m k fs h.
    known c.args.l.now _ _ _ (c.loop-place.invariant ts m k fs h) (omega arith) c.name_at-name.ensures.own
    (asked_names c.args.l.now ts m _ k c.section_word.ensures c.few-known.ensures.0 (c.function_names-names.ensures ts m k)) c.listed.ensures (search (rules, tests))

pub returns : goal.returns
returns c = λ ts m k fs h. all_known c.args.l.now _ _ _ (c.loop-place.invariant ts m k fs h) (omega arith) c.accepted.ensures.0
