-- What is due of a character that a text has begun, as the code holds it.
use Rattle.std.specs.Prelude.{ℕ, zero, suc, ◌≡◌, true, false, List, [], ◌∷◌, Some, None}
use Rattle.std.specs.Prelude as code
use Rattle.std.proofs.Math.Option.{Option, none, some}
use Rattle.rules.specs.Utf8.{Range, ◌to◌, inside, follow}
use Rattle.utf8.specs.declared.Due.{Due}

-- so many bytes, the first of them in a range of its own
abbrev pub ranges : ℕ → ℕ → ℕ → List Range
ranges zero least most = []
ranges (suc left) least most = (least to most) ∷ ranges left 0x80 0xBF

abbrev pub due_of : Due → List Range
due_of d = ranges d.left d.least d.most

-- what may come next, of what the code holds
abbrev pub told : code.Option Due → Option (List Range)
told None = none
told (Some d) = some (due_of d)

pub record Tells (next : Option (List Range)) (d : code.Option Due) : Type 0 where
  pub is : told d ≡ next

-- what is due behind one byte more, where no byte was due or some were
unfoldable pub after : List Range → ℕ → Option (List Range)
after [] b = follow b
after (r ∷ rs) b = elim (inside r b) [ true ↦ some rs | false ↦ none ]
