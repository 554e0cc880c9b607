use borrow.Author.Rules.{rules}
use mathlib.Core.Path.{◌≡◌}
use native.Mathlib.Omega.{arith}
use lib.ListN.{length, length-take}
use Rattle.answers.specs.Refusals.{detail_of}
use Rattle.answers.proofs.refusal.Refusal.size.Goals as goal

pub returns : goal.returns
unfolding detail_of
returns c = let e : length c.args.self.words ≡ 131 = search rules in (simp length-take (omega (arith, c.min.ensures)), omega (arith, c.min.ensures))
