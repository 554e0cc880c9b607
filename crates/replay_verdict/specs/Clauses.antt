-- Contracts that are too long for a line, each called after its function.
use Rattle.std.specs.Prelude.{◌+◌, ℕ, List, ◌≡◌, length}
use Rattle.call_answer.specs.Calls.{answer_for}
use Rattle.lines.specs.Text.{Tells}
use Rattle.replay_cases.specs.declared.case.Case.{Case}
use Rattle.replay_cases.specs.declared.verdict.Compared.{Compared}
use Rattle.replay_cases.specs.Judged.{part, judged}
use Rattle.replay_verdict.specs.declared.cases.Step.{Step}
use Rattle.replay_verdict.specs.declared.cases.Told.{Told}
use Rattle.replay_verdict.specs.Replayed.{which_call, counted_of, total_of}
use Rattle.replay_verdict.specs.ReplayText.{told_of, cases_text}

-- the verdict on the rules' answer to the case
abbrev pub Judges : List ℕ → Case → List ℕ → List ℕ → Compared → Type 0
Judges file c output detail r =
    r ≡ judged file c (answer_for (which_call c.call) (part file c.image) c.row.0 output detail) (length output + length detail)

-- the tally with the case in it, and what is told of the case behind what was told
abbrev pub Steps : List ℕ → List ℕ → Case → ℕ → Step → List ℕ → List ℕ → Step → Type 0
Steps file label c call s text text' r =
    (r.tally ≡ counted_of file c call s.tally) × Tells (told_of file c call label) s.place r.place text text'

-- what the file's cases come to, and what is told of them
abbrev pub Replays : List ℕ → List ℕ → ℕ → ℕ → List ℕ → List ℕ → Told → Type 0
Replays file names call start text text' r =
    (r.total ≡ total_of file call) × Tells (cases_text file names call) start r.place text text'
