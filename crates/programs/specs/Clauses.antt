-- Contracts that are too long for a line, each called after its function.
use Rattle.std.specs.Prelude.{ℕ, ◌≤◌, List, ◌≡◌, length, take}
use Rattle.answers.specs.Answers.{answer_of}
use Rattle.answers.specs.declared.answer.Answer.{Answer}
use Rattle.call_answer.specs.Calls.{answer_for}
use Rattle.call_answer.specs.declared.Call.{Call}
use Rattle.lines.specs.Text.{Tells}
use Rattle.rules.specs.Projone.{lowest_implementation}
use Rattle.programs.specs.Printed.{answer_text}

-- the call's answer for the image's lowest implementation
abbrev pub AnswersLowest : Call → List ℕ → List ℕ → List ℕ → List ℕ → List ℕ → Answer → Type 0
AnswersLowest call image output output' detail detail' r =
    answer_of r output' detail' ≡ answer_for call image (lowest_implementation image) output detail

-- that answer's text from the start on, and whole where there is room for its 5 fields and the 16,384 words of its output, 11 bytes each
abbrev pub TellsLowest : Call → List ℕ → ℕ → List ℕ → List ℕ → Type 0
TellsLowest call image r text text' =
    Tells (answer_text call image) 0 r text text' × (180279 ≤ length text → take r text' ≡ answer_text call image)
