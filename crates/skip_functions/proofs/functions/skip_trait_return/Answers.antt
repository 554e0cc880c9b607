-- `skip_functions::functions::skip_trait_return` meets its contract. Assumes nothing.
use native.Mathlib.Omega.{arith}
use Rattle.skip_functions.proofs.FunctionsLaws.{return_inside}
use Rattle.skip_functions.proofs.functions.skip_trait_return.Goals as goal

pub returns-then-count-at : goal.returns-then-count-at
returns-then-count-at c = λ names t n h. absurd (omega (arith, return_inside _ _ _ n t h, c.if-count-at.true, c.count.ensures))
