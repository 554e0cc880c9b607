-- `check_types::check_type` meets its contract. Assumes nothing.
use borrow.Author.Tests.{not-true, not-false}
use mathlib.Core.Path.{sym, ap, ◌∙◌}
use Rattle.answers.specs.Refusals.{refusal_of}
use Rattle.project_outcome.proofs.Passing.{passed}
use Rattle.check_types.proofs.Checks.{other_type}
use Rattle.check_types.proofs.check_type.Goals as goal

pub returns-then-not-same_type : goal.returns-then-not-same_type
returns-then-not-same_type c = λ rows a e h i. other_type _ _ rows a e _ _ h i _ (sym (c.same_type.ensures.types rows a h rows e i) ∙ not-true _ c.if-not-same_type.true-raw) c.refused.ensures.0 (ap refusal_of c.refused.ensures.1 ∙ c.wrong_type.ensures)

pub returns : goal.returns
returns c = λ rows a e h i. passed _ _ _ (sym (c.same_type.ensures.types rows a h rows e i) ∙ not-false _ c.if-not-same_type.false-raw) c.accepted.ensures.0
