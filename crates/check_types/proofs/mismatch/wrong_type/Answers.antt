-- `check_types::mismatch::wrong_type` meets its contract. Assumes nothing.
use native.Mathlib.Omega.{arith}
use Rattle.check_types.proofs.Details.{adds, adds_word}
use Rattle.check_types.proofs.mismatch.wrong_type.Goals as goal

pub returns : goal.returns
returns c =
    let kind = adds_word _ _ _ _ c.word.ensures c.named.ensures (omega arith) in
    let first = adds _ _ _ _ c.run.ensures.1 kind (omega (arith, c.run.ensures.0)) in
    adds _ _ _ _ c.run-2.ensures.1 first (omega (arith, c.run.ensures.0, c.run-2.ensures.0))
