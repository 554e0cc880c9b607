-- A reading of which only a test is kept.
use Rattle.std.specs.Prelude.{Bool}
use Rattle.rules.specs.Reader.{Reader, ◌>>=◌, rule}

-- readings, and then a test of what they gave
abbrev pub tested : {A : Type 0} → Reader A → (A → Bool) → Reader (Unit {0})
tested r b = r >>= λ a. rule (b a)
