-- The detail words of a parameter's type that differs.
use Rattle.std.specs.Prelude.{ℕ, List, ◌∷◌, ◌++◌}
use Rattle.rules.specs.Refusal as rules

-- two runs under the name of a parameter
abbrev pub type_detail : ℕ → ℕ → List ℕ → List ℕ → rules.Refusal
type_detail f name expected found = record { number = 6; function = f; second = name; detail = 3 ∷ (expected ++ found) }
