-- `pool_bodies::bodies::check_block` meets its contract: each turn leaves one statement less, and its Let is counted.
use Prim.Native.Nat.{◌-◌, ◌≤◌}
use Rattle.rules.specs.ReadBodies.{block}
use Rattle.image_words.specs.Verdict.{section_words}
use Rattle.image_words.proofs.Verdict.{Left}
use Rattle.pool_bodies.proofs.Blocks.{rest}
use Rattle.pool_bodies.proofs.bodies.check_block.Given as goal

abbrev pub invariant-loop : goal.invariant-loop
invariant-loop l = Left (rest l.names l.strings (l.end - l.counter) l.lets) l.next (block l.names l.strings) (section_words l.pool) l.at × (l.lets ≤ l.counter)
