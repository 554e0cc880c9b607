use mathlib.Core.Path.{ap, ◌∙◌}
use Rattle.answers.specs.Refusals.{refusal_of}
use Rattle.project_outcome.proofs.Refusals.{of_20, of_21}
use Rattle.project_outcome.proofs.refuse_value.Goals as goal

pub returns-then-r-eq20 : goal.returns-then-r-eq20
returns-then-r-eq20 c =
    let a = c.args in (
      c.refused.ensures.0,
      ap refusal_of c.refused.ensures.1 ∙ of_20 a.function.0 a.r c.if-r-eq20.true c.named-e.result c.word.result c.run.result c.run-then-r-eq20.result
          c.named-e.ensures c.word.ensures c.run.ensures c.run-then-r-eq20.ensures,
    )

pub returns-then-r-eq21 : goal.returns-then-r-eq21
returns-then-r-eq21 c =
    let a = c.args in (
      c.refused-then-r-eq21.ensures.0,
      ap refusal_of c.refused-then-r-eq21.ensures.1 ∙ of_21 a.function.0 a.r c.if-r-eq20.false c.if-r-eq21.true c.named-e.result c.word-then-r-eq21.result c.run-then-r-eq21.result
          c.named-e.ensures c.word-then-r-eq21.ensures c.run-then-r-eq21.ensures,
    )
