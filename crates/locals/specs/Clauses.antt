-- Contracts that are too long for a line, each called after its function.
use Rattle.std.specs.Prelude.{ℕ, ◌+◌, List, [], ◌∷◌, ◌++◌}
use Rattle.rules.specs.Syntax.{ResolvedType, Param}
use Rattle.rules.specs.declared.ids.NameId.{NameId}
use Rattle.type_words.specs.Holds.{Holds}
use Rattle.type_words.specs.declared.HeldType.{HeldType}
use Rattle.locals.specs.Rows.{Rows, Last}

-- the row of the last local of that name, or one past the rows
abbrev pub FindsLocal : List ℕ → ℕ → NameId → ℕ → Type 0
FindsLocal names count x r =
    (rows : ℕ) (words lens : List ℕ) (ps : List (Param ResolvedType)) → Rows rows names words lens count 0 ps
    → Last rows names words lens count x.0 ps r

-- the table with one local more
abbrev pub AddsLocal : List ℕ → List ℕ → List ℕ → List ℕ → List ℕ → List ℕ → ℕ → NameId → HeldType → Type 0
AddsLocal names names' words words' lens lens' i name ty =
    (rows : ℕ) (ps : List (Param ResolvedType)) (t : ResolvedType) → Rows rows names words lens i 0 ps → Holds rows ty t
    → Rows rows names' words' lens' (i + 1) 0 (ps ++ (record { name = name.0; ty = t } ∷ []))
