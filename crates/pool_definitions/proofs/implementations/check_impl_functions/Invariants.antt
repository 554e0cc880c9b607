-- `pool_definitions::implementations::check_impl_functions` meets its contract: each turn leaves one reading less.
use Prim.Native.Nat.{◌-◌}
use Rattle.rules.specs.Reader.{many, times}
use Rattle.rules.specs.ReadDefinitions.{impl_function}
use Rattle.image_words.specs.Verdict.{section_words}
use Rattle.image_words.proofs.Verdict.{Left}
use Rattle.pool_definitions.proofs.implementations.check_impl_functions.Given as goal

abbrev pub invariant-loop : goal.invariant-loop
invariant-loop l = Left (times (l.end - l.counter) (impl_function l.names l.strings)) l.next (many 64 (impl_function l.names l.strings)) (section_words l.pool) l.at
