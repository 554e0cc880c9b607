-- `skip_types::skip_maybe_type` meets its contract. Assumes nothing.
use native.Mathlib.Omega.{arith}
use Rattle.image_words.specs.Verdict.{section_words}
use Rattle.pool_types.specs.TypeAt.{TypeStands}
use Rattle.skip_types.proofs.Maybe.{maybe_inside}
use Rattle.skip_types.proofs.skip_maybe_type.Goals as goal

pub returns-then-count-at : goal.returns-then-count-at
returns-then-count-at c = λ names o n h. absurd (omega (arith, maybe_inside (section_words c.args.pool.now) (TypeStands names (section_words c.args.pool.now)) o _ n h, c.if-count-at.true, c.count.ensures))
