-- `check_types::check_name` meets its contract. Assumes nothing.
use borrow.Author.Tests.{eq-eqb, ne_eqb}
use mathlib.Core.Path.{ap, ◌∙◌}
use Rattle.answers.specs.Refusals.{refusal_of}
use Rattle.project_outcome.proofs.Passing.{passed, refused}
use Rattle.check_types.proofs.check_name.Goals as goal

pub returns-then-found-wanted : goal.returns-then-found-wanted
returns-then-found-wanted c = refused _ _ _ (ne_eqb _ _ c.if-found-wanted.true) c.refused.ensures.0 (ap refusal_of c.refused.ensures.1 ∙ c.wrong_word.ensures)

pub returns : goal.returns
returns c = passed _ _ _ (eq-eqb _ _ c.if-found-wanted.false) c.accepted.ensures.0
