-- `skip_functions::functions::skip_params` meets its contract. Assumes nothing.
use native.Mathlib.Omega.{arith}
use Rattle.skip_functions.proofs.FunctionsLaws.{resolved_left, expressions_left}
use Rattle.skip_functions.proofs.functions.skip_params.Goals as goal

pub returns-then-count-at-clause-resolved : goal.returns-then-count-at-clause-resolved
returns-then-count-at-clause-resolved c = λ names most ps n h. absurd (omega (arith, h.0.inside, c.if-count-at.true, c.count.ensures))

pub returns-then-count-at-clause-expressions : goal.returns-then-count-at-clause-expressions
returns-then-count-at-clause-expressions c = λ names most ps n h. absurd (omega (arith, h.0.inside, c.if-count-at.true, c.count.ensures))

pub returns-clause-resolved : goal.returns-clause-resolved
returns-clause-resolved c = λ names most ps n h. c.skip_named.ensures names n (resolved_left names _ _ c.section_word-count.ensures ps h)

pub returns-clause-expressions : goal.returns-clause-expressions
returns-clause-expressions c = λ names most ps n h. c.skip_named.ensures names n (expressions_left names _ _ c.section_word-count.ensures ps h)
