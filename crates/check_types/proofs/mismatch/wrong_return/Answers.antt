-- `check_types::mismatch::wrong_return` meets its contract. Assumes nothing.
use native.Mathlib.Omega.{arith}
use Rattle.check_types.proofs.Details.{return_small, adds_word, adds_return}
use Rattle.check_types.proofs.mismatch.wrong_return.Goals as goal

pub returns : goal.returns
returns c =
    λ names e a h i.
    let kind = adds_word _ _ _ _ c.word.ensures c.at.ensures (omega arith) in
    let first = adds_return _ _ _ _ (λ l. c.add_return.ensures l names e h) kind (omega arith) in
    adds_return _ _ _ _ (λ l. c.add_return-2.ensures l names a i) first (omega (arith, return_small names _ e h))
