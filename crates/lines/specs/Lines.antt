-- Numbers in lines: what the programs print.
use Rattle.std.specs.Prelude.{ℕ, List, [], ◌∷◌, ◌++◌}
use Rattle.answers.specs.declared.answer.Answer.{Answer}
use Rattle.lines.specs.Decimal.{decimal}

-- a line: its numbers in decimal, a space between two, a line feed behind the last
unfoldable pub line_text : List ℕ → List ℕ
line_text [] = 10 ∷ []
line_text (n ∷ []) = decimal n ++ (10 ∷ [])
line_text (n ∷ m ∷ ns) = decimal n ++ (32 ∷ []) ++ line_text (m ∷ ns)

-- the lines, one behind the other
unfoldable pub lines_text : List (List ℕ) → List ℕ
lines_text [] = []
lines_text (l ∷ ls) = line_text l ++ lines_text ls

-- an answer's five fields
abbrev pub fields_of : Answer → List ℕ
fields_of a = a.number ∷ a.function.0 ∷ a.second.0 ∷ a.length ∷ a.visits ∷ []
