-- `type_words::HeldType::count` meets its contract. Assumes nothing.
use native.Mathlib.Omega.{arith}
use mathlib.Core.Path.{sym, ◌∙◌}
use borrow.Author.Rules.{rules}
use Rattle.type_words.proofs.Runs.{run_length}
use Rattle.type_words.proofs.HeldType.count.Goals as goal

pub returns : goal.returns
returns c = (c.min.ensures ∙ sym (run_length c.args.self (search rules)), omega (arith, c.min.ensures))
