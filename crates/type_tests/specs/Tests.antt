-- Equality of held types.
use Rattle.std.specs.Prelude.{◌≡◌, Bool}
use Rattle.rules.specs.Words.{same}
use Rattle.rules.specs.Types.{same_type}
use Rattle.type_words.specs.declared.HeldType.{HeldType}
use Rattle.type_words.specs.Runs.{held_run}
use Rattle.type_words.specs.Holds.{Each}

-- r says whether a and b have the same run, and so whether the types that they hold are the same
pub record Same (a b : HeldType) (r : Bool) : Type 0 where
  pub runs : r ≡ same (held_run a) (held_run b)
  pub types : Each a (λ t. Each b (λ u. r ≡ same_type t u))
