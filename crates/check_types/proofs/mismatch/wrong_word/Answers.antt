-- `check_types::mismatch::wrong_word` meets its contract. Assumes nothing.
use native.Mathlib.Omega.{arith}
use Rattle.check_types.proofs.Details.{adds_word}
use Rattle.check_types.proofs.mismatch.wrong_word.Goals as goal

pub returns : goal.returns
returns c =
    let one = adds_word _ _ _ _ c.word.ensures c.at.ensures (omega arith) in
    let two = adds_word _ _ _ _ c.word-2.ensures one (omega arith) in
    adds_word _ _ _ _ c.word-3.ensures two (omega arith)
