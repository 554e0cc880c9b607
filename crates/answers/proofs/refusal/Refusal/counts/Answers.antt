use mathlib.Core.Path.{refl}
use Rattle.answers.specs.Refusals.{detail_of, refusal_of}
use Rattle.answers.proofs.refusal.Refusal.counts.Goals as goal

pub returns : goal.returns
unfolding refusal_of detail_of
returns c = refl
