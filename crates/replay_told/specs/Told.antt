-- What the replay tells of a case, of a tally and of files that are not as they should be, byte for byte.
use Rattle.std.specs.Prelude.{ℕ, Bool, true, false, ◌||◌, List, [], ◌∷◌, ◌++◌}
use Prim.Native.Char.{code}
use Prim.Native.String.{String, [] as no_text, ◌∷◌ as ◌before◌}
use Rattle.rules.specs.Words.{same}
use Rattle.lines.specs.Decimal.{decimal}
use Rattle.lines.specs.Lines.{line_text, fields_of}
use Rattle.replay_cases.specs.declared.verdict.Compared.{Compared}
use Rattle.replay_cases.specs.Judged.{agrees}

-- a text's bytes; its characters are ASCII, a byte each
abbrev pub codes : String → List ℕ
codes no_text = []
codes (c before cs) = code c ∷ codes cs

-- nothing where a test holds, and nothing where it does not
abbrev pub unless : Bool → List ℕ → List ℕ
unless true text = []
unless false text = text

abbrev pub when : Bool → List ℕ → List ℕ
when true text = text
when false text = []

-- a file that could not be read
abbrev pub unread_text : List ℕ
unread_text = codes "DAMAGED: cases.bin or labels.txt cannot be read, or is too long\n"

-- a file of cases that is not whole, and how many cases were met in it
abbrev pub damaged_text : ℕ → List ℕ
damaged_text reached =
    codes "DAMAGED: the file of cases is not as long as it says, or lends more than there is room for, at case "
    ++ (decimal reached ++ codes "\n")

-- the parts that are not as stored
abbrev pub parts_text : Compared → List ℕ
parts_text c = unless c.fields (codes ", fields") ++ unless c.output (codes ", output") ++ unless c.detail (codes ", detail")

-- a case that differs: its label, those parts, and the five fields of the answer
unfoldable pub differs_text : List ℕ → Compared → List ℕ
differs_text label c = codes "DIFFERS: " ++ label ++ parts_text c ++ codes ": answered " ++ line_text (fields_of c.answer)

-- the edge cases that are told by name
unfoldable pub is_named : List ℕ → Bool
is_named label = same label (codes "visits-1024") || same label (codes "visits-1025") || same label (codes "alias-itself")

-- such a label, and the number answered
abbrev pub named_text : List ℕ → ℕ → List ℕ
named_text label number = when (is_named label) (label ++ codes ": " ++ (decimal number ++ codes "\n"))

-- a case: what differs, and its number where it has a name
abbrev pub case_text : List ℕ → Compared → List ℕ
case_text label c = unless (agrees c) (differs_text label c) ++ named_text label c.answer.number

-- a call's title, and what was compared
abbrev pub tally_text : List ℕ → ℕ → ℕ → ℕ → List ℕ
tally_text title cases bytes differ =
    title
    ++ codes ": "
    ++ (decimal cases ++ codes " cases, all fields, ")
    ++ (decimal bytes ++ codes " bytes of both buffers; ")
    ++ (decimal differ ++ codes " differ\n")
