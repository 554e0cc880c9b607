-- `project_impl::found::project_found` meets its contract. Assumes nothing.
use mathlib.Core.Path.{refl, ◌∙◌}
use borrow.Author.Tests.{not-true, not-false}
use Rattle.answers.proofs.Calls.{comes_err, is_accepted, is_refused}
use Rattle.project_impl.proofs.WholeLaws.{words_err, not_expected, found_refused, found_goes}
use Rattle.project_impl.proofs.WantedParts.{wanted, untouched_to}
use Rattle.project_impl.proofs.found.project_found.Goals as goal

pub returns-then-not-e : goal.returns-then-not-e
returns-then-not-e c = λ a message b few. comes_err (not_expected a.impl message a.schema a.trait (words_err _ (is_refused (c.expected_functions-e.ensures a) (not-true _ c.if-not-e.true)))) (not-true _ c.if-not-e.true) refl

pub project_tested-p-requires : goal.project_tested-p-requires
project_tested-p-requires c = (c.requires.0, wanted c.requires.1 (is_accepted (c.expected_functions-e.ensures c.requires.1) (not-false _ c.if-not-e.false)))

pub returns-then-not-p : goal.returns-then-not-p
returns-then-not-p c =
    λ a message b few.
    let k = is_accepted (c.expected_functions-e.ensures a) (not-false _ c.if-not-e.false) in
    let w = wanted a k in
    found_refused a.impl message a.schema a.trait w.is (untouched_to c.expected_functions-e.new.out c.args.out.now c.expected_functions-e.auto.out (c.project_tested-p.ensures w message b)) (not-true _ c.if-not-p.true)

pub returns : goal.returns
returns c =
    λ a message b few.
    let k = is_accepted (c.expected_functions-e.ensures a) (not-false _ c.if-not-e.false) in
    let w = wanted a k in
    found_goes a.impl message a.schema a.trait w.is (untouched_to c.expected_functions-e.new.out c.args.out.now c.expected_functions-e.auto.out (c.project_tested-p.ensures w message b)) (not-false _ c.if-not-p.false) few c.accepted.ensures.0 c.accepted.ensures.1 (c.accepted.ensures.2 ∙ k.counts)
