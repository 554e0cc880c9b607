-- `skip_functions::functions::skip_trait_function` meets its contract. Assumes nothing.
use native.Mathlib.Omega.{arith}
use Rattle.skip_functions.proofs.FunctionsLaws.{return_from}
use Rattle.skip_functions.proofs.functions.skip_trait_function.Goals as goal

pub returns-then-count-at : goal.returns-then-count-at
returns-then-count-at c = λ names f n h. absurd (omega (arith, h.name_at.inside, c.if-count-at.true, c.count.ensures))

pub returns : goal.returns
returns c = λ names f n h. c.skip_trait_return.ensures names f.return_type n (return_from names _ f.return_type n (c.skip_params-returns.ensures.expressions names 32 f.params h.params_end h.params_at) h.return_at)
