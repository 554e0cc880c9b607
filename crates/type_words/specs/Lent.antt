-- A run that grew where it lies, as a type that was to grow, with what it says of poison: growing has no part in that.
use Rattle.std.specs.Prelude.{ℕ, Bool, true, false, List, Option, Some, None}
use Rattle.type_words.specs.Runs.{Grown}

-- by the count that it has then, or none where it could not grow
abbrev pub lent : Option ℕ → List ℕ → Bool → Grown
lent (Some n) words p = record { ok = true; ty = record { words = words; len = n; poison = p } }
lent None words p = record { ok = false; ty = record { words = words; len = 0; poison = p } }
