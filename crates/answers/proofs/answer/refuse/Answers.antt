use Prim.Native.Nat.{ℕ}
use mathlib.Core.Path.{ap}
use mathlib.Core.List.{List}
use Rattle.rules.specs.Answer.{refused}
use Rattle.answers.specs.Refusals.{refusal_of}
use Rattle.answers.specs.Answers.{answer_of}
use Rattle.answers.proofs.Fields.{fields}
use Rattle.answers.proofs.answer.refuse.Goals as goal

pub returns : goal.returns
unfolding answer_of refused refusal_of
returns c = λ output. ap (λ (d : List ℕ). fields c.args.r.number c.args.r.function.0 c.args.r.second.0 0 0 output d) c.write_detail.ensures
