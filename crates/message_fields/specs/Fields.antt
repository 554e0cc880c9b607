-- Where a message's fields stand among some words, and where one's type does.
use Rattle.std.specs.Prelude.{ℕ, ◌≡◌, List}
use Rattle.std.proofs.Math.Option.{Option, none, some}
use Rattle.rules.specs.Syntax.{ResolvedType, run, Param}
use Rattle.rules.specs.Good.{Stored}
use Rattle.image_words.specs.Gives.{Counted}
use Rattle.image_words.specs.Stands.{Stands}
use Rattle.pool_types.specs.TypeAt.{TypeStands}
use Rattle.pool_types.specs.ParamAt.{ParamAt}

-- over the number of name rows and the words: a count, and each field's name with its type
abbrev pub Fields : ℕ → List ℕ → List (Param ResolvedType) → ℕ → ℕ → Type 0
Fields rows ws ps at n = Counted ws 256 (ParamAt rows ws (TypeStands rows ws)) ps at n

-- the type stands at r, or there is none and r is 0
abbrev pub Place : ℕ → List ℕ → ℕ → Option ResolvedType → Type 0
Place rows ws r none = r ≡ 0
Place rows ws r (some t) = (r ≡ 0 → ⊥) × (m : ℕ) × Stands ws (run t) r m × Stored rows t
