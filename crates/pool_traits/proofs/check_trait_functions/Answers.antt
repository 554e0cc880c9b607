-- `pool_traits::check_trait_functions` meets its contract: each turn leaves one function less, and its name is kept.
use Prim.Native.Nat.{◌<◌}
use mathlib.Core.Path.{sym, ap, ◌∙◌}
use native.Mathlib.Omega.{arith}
use lib.ListN.{length, length-set}
use Rattle.rules.specs.Words.{all_different}
use Rattle.pool_traits.proofs.Different.{different_more, take_more}
use Rattle.pool_traits.proofs.TraitLoop.{turn_more}
use Rattle.pool_traits.proofs.check_trait_functions.Goals as goal

pub loop-i-preserved : goal.loop-i-preserved
loop-i-preserved c =
    let l : c.loop-i.i < length c.loop-i.seen = omega arith in (
      turn_more _ _ _ _ c.loop-i.invariant.0 c.loop-i-test.true c.in_ok-next-2.ensures c.section_word-name.ensures l,
      ap all_different (take_more _ _ _ l) ∙ different_more _ _ c.loop-i.invariant.1 (sym c.listed.ensures ∙ c.if-listed.false),
      c.loop-i.invariant.2,
      simp length-set c.loop-i.invariant.3,
    )
