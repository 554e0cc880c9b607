-- Well-formed UTF-8, by table 3-7 of the Unicode Standard.
use Rattle.std.specs.Prelude.{ℕ, Bool, true, false, List, [], ◌∷◌}
use Rattle.std.proofs.Math.Option.{Option, none, some}
use Rattle.rules.specs.Words.{within}

-- bytes from the first to the second, both included
pub record Range : Type 0 where
  pub least : ℕ
  pub most : ℕ

infix 60 ◌to◌
abbrev pub ◌to◌ : ℕ → ℕ → Range
a to b = record { least = a; most = b }

abbrev pub inside : Range → ℕ → Bool
inside r b = within r.least r.most b

-- every byte behind the second, and most second bytes
abbrev pub tail : Range
tail = 0x80 to 0xBF

-- the table, row by row: a first byte, and what must follow it
abbrev pub table : List (Range × List Range)
table =
    (0x00 to 0x7F, [])
    ∷ (0xC2 to 0xDF, tail ∷ [])
    ∷ (0xE0 to 0xE0, (0xA0 to 0xBF) ∷ tail ∷ [])
    ∷ (0xE1 to 0xEC, tail ∷ tail ∷ [])
    ∷ (0xED to 0xED, (0x80 to 0x9F) ∷ tail ∷ [])
    ∷ (0xEE to 0xEF, tail ∷ tail ∷ [])
    ∷ (0xF0 to 0xF0, (0x90 to 0xBF) ∷ tail ∷ tail ∷ [])
    ∷ (0xF1 to 0xF3, tail ∷ tail ∷ tail ∷ [])
    ∷ (0xF4 to 0xF4, (0x80 to 0x8F) ∷ tail ∷ tail ∷ [])
    ∷ []

-- what must follow a byte in the first of some rows that has it; a byte in none begins no character
unfoldable pub row_of : List (Range × List Range) → ℕ → Option (List Range)
row_of [] b = none
row_of (r ∷ rs) b = elim (inside r.0 b) [ true ↦ some r.1 | false ↦ row_of rs b ]

abbrev pub follow : ℕ → Option (List Range)
follow b = row_of table b

-- bytes in these ranges, which end a character that was begun, and then whole characters up to the text's end
unfoldable pub well_formed_from : List Range → List ℕ → Bool
well_formed_from [] [] = true
well_formed_from (r ∷ rs) [] = false
well_formed_from [] (b ∷ bs) = elim (follow b) [ none ↦ false | some rs ↦ well_formed_from rs bs ]
well_formed_from (r ∷ rs) (b ∷ bs) = elim (inside r b) [ true ↦ well_formed_from rs bs | false ↦ false ]

abbrev pub well_formed : List ℕ → Bool
well_formed text = well_formed_from [] text
