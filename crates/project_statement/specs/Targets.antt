-- What an assignment's target is found to be.
use Rattle.std.specs.Prelude.{ℕ, ◌≡◌, Option, None, IsSomeAnd}
use Rattle.rules.specs.Refusal.{Result, ok, err, in_function}
use Rattle.rules.specs.declared.ids.NameId.{NameId}

-- over the function's name: r is the field, or nothing under 19
abbrev pub FieldAgrees : ℕ → Result ℕ → Option NameId → Type 0
FieldAgrees f (err z) r = (r ≡ None) × (in_function 19 f ≡ z)
FieldAgrees f (ok x) r = IsSomeAnd r (λ n. n.0 ≡ x)
