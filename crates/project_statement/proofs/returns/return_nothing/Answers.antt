-- `project_statement::returns::return_nothing` meets its contract. Assumes nothing.
use borrow.Author.Tests.{not-true, not-false}
use Prim.Native.Nat.{ℕ}
use mathlib.Core.Path.{ap, ◌∙◌}
use mathlib.Core.List.{[], ◌∷◌}
use Rattle.rules.specs.Refusal.{with_detail, in_function}
use Rattle.answers.specs.Refusals.{refusal_of}
use Rattle.project_statement.proofs.ReturnsLaws.{nothing_wanted, nothing_early, nothing_last}
use Rattle.project_statement.proofs.returns.return_nothing.Goals as goal

pub returns-then-returns : goal.returns-then-returns
returns-then-returns c = λ x f rows o w ss q. nothing_wanted x ss rows _ o w c.if-returns.true c.return_mismatch.ensures.0 (c.return_mismatch.ensures.1 ∙ ap (λ (k : ℕ). with_detail 22 k (1 ∷ [])) f)

pub returns-then-not-last : goal.returns-then-not-last
returns-then-not-last c = λ x f rows o w ss q. nothing_early x ss rows _ o w c.if-returns.false (q ∙ not-true _ c.if-not-last.true-raw) c.refused.ensures.0 (ap refusal_of c.refused.ensures.1 ∙ c.at.ensures ∙ ap (in_function 23) f)

pub returns : goal.returns
returns c = λ x f rows o w ss q. nothing_last x ss rows _ o w c.if-returns.false (q ∙ not-false _ c.if-not-last.false-raw) c.accepted.ensures.0 (rw c.accepted.ensures.1 c.put_two-a.ensures)
