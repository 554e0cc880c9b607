-- A literal's type: the expected type if it fits, its own with none expected, or none.
use Rattle.std.specs.Prelude.{ℕ, ◌<◌, ◌≡◌, Bool, true, false}
use Rattle.std.proofs.Math.Option.{Option, none, some}
use Rattle.rules.specs.Syntax.{ResolvedType}
use Rattle.rules.specs.Fits.{literal_fits, literal_own}
use Rattle.type_words.specs.declared.MaybeType.{MaybeType}
use Rattle.type_words.specs.Holds.{Each, EachMaybe, MaybeHolds}

-- 0 Int, 1 UInt, 2 Float, and the bits
unfoldable pub literal_type : ℕ → ℕ → Option ResolvedType → Option ResolvedType
literal_type c n none = some (literal_own c)
literal_type c n (some t) = elim (literal_fits c n t) [ true ↦ some t | false ↦ none ]

-- r is that type, of a literal of code c that fits what is expected or not, and whose own type is the primitive k
abbrev pub LiteralType : MaybeType → Bool → ℕ → MaybeType → Type 0
LiteralType expected fits k r =
    (c n : ℕ) → Each expected.ty (λ t. fits ≡ literal_fits c n t) → literal_own c ≡ ResolvedType.plain k → k < 14
    → EachMaybe expected (λ names o. MaybeHolds names r (literal_type c n o))
