-- Types whose runs are equal say the same of poison: to compare types their words are enough. proofs/Equal.antt proves it.
use Rattle.std.specs.Prelude.{◌≡◌}
use Rattle.type_words.specs.declared.HeldType.{HeldType}
use Rattle.type_words.specs.Runs.{held_run}
use Rattle.type_words.specs.Holds.{Each}

abbrev pub EqualFlags : Type 0
EqualFlags = (a b : HeldType) → held_run a ≡ held_run b → Each a (λ t. Each b (λ u. a.poison ≡ b.poison))
