-- Types that print alike: a sub-byte type of a primitive's sign and width takes the same integers and is another type.
use Rattle.std.specs.Prelude.{ℕ, ◌≡◌, Bool, true, false, List, [], ◌∷◌}
use Rattle.rules.specs.Syntax.{ResolvedType}
use Rattle.rules.specs.Types.{same_type}
use Rattle.rules.specs.Fits.{range_of}

-- a sub-byte type, a type, and whether they are the same
pub record Pair : Type 0 where
  pub sub : ResolvedType
  pub other : ResolvedType
  pub equal : Bool

abbrev row : ℕ → ℕ → ResolvedType → Bool → Pair
row s n t b = record { sub = ResolvedType.sub s n; other = t; equal = b }

abbrev pub alike : List Pair
alike =
    row 0 8 (ResolvedType.plain 1) false  -- u8
    ∷ row 0 16 (ResolvedType.plain 2) false
    ∷ row 0 32 (ResolvedType.plain 3) false
    ∷ row 0 64 (ResolvedType.plain 4) false
    ∷ row 1 8 (ResolvedType.plain 5) false
    ∷ row 1 16 (ResolvedType.plain 6) false
    ∷ row 1 32 (ResolvedType.plain 7) false
    ∷ row 1 64 (ResolvedType.plain 8) false
    ∷ row 0 8 (ResolvedType.sub 0 8) true
    ∷ []

-- each pair takes the same integers, and is as its row says
abbrev pub Right : List Pair → Type 0
Right [] = Unit {0}
Right (p ∷ ps) = (range_of p.sub ≡ range_of p.other) × (same_type p.sub p.other ≡ p.equal) × Right ps
