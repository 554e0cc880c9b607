-- `pool_types::parts::check_names` meets its contract: each turn leaves one reading less.
use Prim.Native.Nat.{◌-◌}
use Rattle.rules.specs.Reader.{many, times}
use Rattle.rules.specs.ReadTypes.{name}
use Rattle.image_words.specs.Verdict.{section_words}
use Rattle.image_words.proofs.Verdict.{Left}
use Rattle.pool_types.proofs.parts.check_names.Given as goal

abbrev pub invariant-loop : goal.invariant-loop
invariant-loop l = Left (times (l.end - l.counter) (name l.names)) l.next (many l.most (name l.names)) (section_words l.pool) l.at
