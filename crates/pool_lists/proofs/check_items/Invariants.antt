-- `pool_lists::check_items` meets its contract: each turn leaves one reading less. Assumes nothing.
use Prim.Native.Nat.{◌-◌}
use Rattle.rules.specs.Reader.{many, times}
use Rattle.image_words.specs.Verdict.{section_words}
use Rattle.image_words.proofs.Verdict.{Left}
use Rattle.pool_lists.specs.Items.{item_reader}
use Rattle.pool_lists.proofs.check_items.Given as goal

abbrev pub invariant-loop : goal.invariant-loop
invariant-loop l = Left (times (l.end - l.counter) (item_reader l.item l.names)) l.next (many l.most (item_reader l.item l.names)) (section_words l.pool) l.at
