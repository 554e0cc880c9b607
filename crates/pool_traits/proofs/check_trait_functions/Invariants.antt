-- `pool_traits::check_trait_functions` meets its contract: each turn leaves one function less, and its name is kept.
use Prim.Native.Nat.{◌-◌, ◌≤◌}
use mathlib.Core.Path.{◌≡◌}
use mathlib.Core.Bool.{true}
use lib.ListN.{length, take}
use Rattle.rules.specs.Words.{all_different}
use Rattle.image_words.specs.Verdict.{section_words}
use Rattle.image_words.proofs.Verdict.{Left}
use Rattle.pool_traits.specs.Different.{different_functions}
use Rattle.pool_traits.proofs.TraitLoop.{rest}
use Rattle.pool_traits.proofs.check_trait_functions.Given as goal

abbrev pub invariant-loop-i : goal.invariant-loop-i
invariant-loop-i l = Left (rest l.names (l.i-end - l.i) (take l.i l.seen)) l.next (different_functions l.names) (section_words l.pool) l.at × (all_different (take l.i l.seen) ≡ true) × (l.i-end ≤ 64) × (length l.seen ≡ 64)
