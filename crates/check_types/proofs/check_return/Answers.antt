-- `check_types::check_return` meets its contract. Assumes nothing.
use borrow.Author.Tests.{not-true, not-false}
use mathlib.Core.Path.{sym, ap, ◌∙◌}
use Rattle.rules.specs.Types.{normalize_return}
use Rattle.answers.specs.Refusals.{refusal_of}
use Rattle.check_types.proofs.Checks.{other_return, alike_return}
use Rattle.check_types.proofs.check_return.Goals as goal

pub returns-then-not-same_return : goal.returns-then-not-same_return
returns-then-not-same_return c =
    λ rows a e h i.
    let n = c.normalize_return-found.ensures rows a h in
    other_return _ a e _ (sym (c.same_return.ensures rows (normalize_return a) n rows e i) ∙ not-true _ c.if-not-same_return.true-raw) c.refused.ensures.0 (ap refusal_of c.refused.ensures.1 ∙ c.wrong_return.ensures rows e (normalize_return a) i n)

pub returns : goal.returns
returns c =
    λ rows a e h i.
    let n = c.normalize_return-found.ensures rows a h in
    alike_return _ a e _ (sym (c.same_return.ensures rows (normalize_return a) n rows e i) ∙ not-false _ c.if-not-same_return.false-raw) c.accepted.ensures.0
