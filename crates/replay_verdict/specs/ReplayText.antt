-- What the replay of a file of cases tells, byte for byte, with the labels of another.
use Rattle.std.specs.Prelude.{ℕ, zero, suc, min, Some, None, Result, Ok, Err, List, [], ◌++◌, eqb, length}
use Rattle.words.specs.Words.{word_at}
use Rattle.replay_cases.specs.declared.case.Case.{Case}
use Rattle.replay_cases.specs.Cases.{case_at}
use Rattle.replay_cases.specs.Labels.{line, line_end, next_line}
use Rattle.replay_told.specs.Told.{codes, when, case_text, damaged_text, tally_text}
use Rattle.replay_verdict.specs.declared.tally.Tally.{Tally}
use Rattle.replay_verdict.specs.Replayed.{compared, total_of}

-- a case, where it is of the call that is replayed
abbrev pub told_of : List ℕ → Case → ℕ → List ℕ → List ℕ
told_of file c call label = when (eqb c.call call) (case_text label (compared file c))

-- so many cases from a place on, up to where none stands, with the labels from a place on
unfoldable pub told_from : ℕ → List ℕ → List ℕ → ℕ → ℕ → ℕ → List ℕ
told_from zero file names call at name = []
told_from (suc n) file names call at name =
    elim (case_at file at) [
      | None ↦ []
      | Some c ↦ told_of file c call (line names name) ++ told_from n file names call c.next (next_line names (line_end names name))
    ]

-- all cases of a call
abbrev pub cases_text : List ℕ → List ℕ → ℕ → List ℕ
cases_text file names call = told_from (word_at file 0) file names call (min 4 (length file)) 0

-- what they come to
abbrev pub total_text : List ℕ → Result Tally ℕ → List ℕ
total_text title (Ok t) = tally_text title t.cases t.bytes t.differ
total_text title (Err reached) = damaged_text reached

abbrev pub call_text : List ℕ → List ℕ → ℕ → List ℕ → List ℕ
call_text file names call title = cases_text file names call ++ total_text title (total_of file call)

-- both calls, one behind the other
unfoldable pub replay_text : List ℕ → List ℕ → List ℕ
replay_text file names = call_text file names 0 (codes "project_impl") ++ call_text file names 1 (codes "expected_signatures")
