-- What a program prints of an image.
use Rattle.std.specs.Prelude.{ℕ, ◌≡◌, List, replicate}
use Rattle.rules.specs.Projone.{lowest_implementation, lines, projone}
use Rattle.call_answer.specs.Calls.{answer_for}
use Rattle.call_answer.specs.declared.Call.{Call}
use Rattle.lines.specs.Lines.{lines_text}

-- the call's answer for the image's lowest implementation, in 65,536 and 576 lent zeros, as lines
unfoldable pub answer_text : Call → List ℕ → List ℕ
answer_text call image = lines_text (lines (answer_for call image (lowest_implementation image) (replicate 65536 0) (replicate 576 0)))

-- of a projection, the lines that the rules have for program projone
abbrev pub PrintsProjone : Type 0
PrintsProjone = (image : List ℕ) → answer_text Call.Projection image ≡ lines_text (projone image)
