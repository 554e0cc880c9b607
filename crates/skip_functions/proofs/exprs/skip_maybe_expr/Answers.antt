-- `skip_functions::exprs::skip_maybe_expr` meets its contract. Assumes nothing.
use native.Mathlib.Omega.{arith}
use Rattle.image_words.specs.Verdict.{section_words}
use Rattle.pool_expressions.specs.ExprAt.{ExprStands}
use Rattle.skip_types.proofs.Maybe.{maybe_inside}
use Rattle.skip_functions.proofs.exprs.skip_maybe_expr.Goals as goal

pub returns-then-count-at : goal.returns-then-count-at
returns-then-count-at c = λ names strings o n h. absurd (omega (arith, maybe_inside (section_words c.args.pool.now) (ExprStands names strings (section_words c.args.pool.now)) o _ n h, c.if-count-at.true, c.count.ensures))
