-- What the replay says of the stored cases: each call asked anew, its answer held against the case, and the verdicts counted.
use Rattle.std.specs.Prelude.{ℕ, zero, suc, ◌+◌, min, Bool, true, false, Some, None, Result, Ok, Err, List, eqb, length, replicate}
use Rattle.rules.specs.Answer as rules
use Rattle.words.specs.Words.{word_at}
use Rattle.call_answer.specs.declared.Call.{Call}
use Rattle.call_answer.specs.Calls.{answer_for}
use Rattle.replay_cases.specs.declared.case.Case.{Case}
use Rattle.replay_cases.specs.declared.verdict.Compared.{Compared}
use Rattle.replay_cases.specs.Cases.{case_at}
use Rattle.replay_cases.specs.Judged.{part, output_fill, detail_fill, judged, agrees}
use Rattle.replay_verdict.specs.declared.tally.Tally.{Tally}

abbrev call_when : Bool → Call
call_when true = Call.Projection
call_when false = Call.Signatures

-- a call as the file names it
abbrev pub number_of : Call → ℕ
number_of Call.Projection = 0
number_of Call.Signatures = 1

-- the call that a case's number names
abbrev pub which_call : ℕ → Call
which_call n = call_when (eqb n 0)

-- the answer of the case's call, on its image and row, in filled buffers of its lengths
abbrev pub asked : List ℕ → Case → rules.Answer
asked file c = answer_for (which_call c.call) (part file c.image) c.row.0 (replicate c.output output_fill) (replicate c.detail detail_fill)

-- the verdict on a case
abbrev pub compared : List ℕ → Case → Compared
compared file c = judged file c (asked file c) (c.output + c.detail)

abbrev pub one_where_not : Bool → ℕ
one_where_not true = 0
one_where_not false = 1

-- a case more, its bytes, and whether it differs
abbrev pub tallied : Tally → Compared → Tally
tallied t r = record { cases = t.cases + 1; bytes = t.bytes + r.bytes; differ = t.differ + one_where_not (agrees r) }

abbrev pub either : Bool → Tally → Tally → Tally
either true t u = t
either false t u = u

-- a case counted where it is of the call that is replayed
abbrev pub counted_of : List ℕ → Case → ℕ → Tally → Tally
counted_of file c call t = either (eqb c.call call) (tallied t (compared file c)) t

abbrev pub none_yet : Tally
none_yet = record { cases = 0; bytes = 0; differ = 0 }

-- what all cases come to, where the file ends behind the last of them
abbrev pub came : Bool → Tally → ℕ → Result Tally ℕ
came true t count = Ok t
came false t count = Err count

-- so many cases from a place on, the first of them the i-th: up to where no case stands, or to the last, which ends where a whole file ends
unfoldable pub total_from : ℕ → List ℕ → ℕ → ℕ → ℕ → Tally → Result Tally ℕ
total_from zero file call i at t = came (eqb at (length file)) t i
total_from (suc n) file call i at t = elim (case_at file at) [ None ↦ Err i | Some c ↦ total_from n file call (i + 1) c.next (counted_of file c call t) ]

-- the file's first word is the number of its cases, which stand behind it
abbrev pub total_of : List ℕ → ℕ → Result Tally ℕ
total_of file call = total_from (word_at file 0) file call 0 (min 4 (length file)) none_yet
