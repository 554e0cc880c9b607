-- `type_words::HeldType::word` meets its contract. Assumes nothing.
use native.Mathlib.Omega.{arith}
use mathlib.Core.Path.{sym}
use Rattle.type_words.proofs.Runs.{run_word}
use Rattle.type_words.proofs.HeldType.word.Goals as goal

pub returns-then-i-n : goal.returns-then-i-n
returns-then-i-n c = sym (run_word _ _ (omega arith))
