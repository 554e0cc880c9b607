-- An answer held against a stored case: its five fields, and every byte of both buffers.
use Rattle.std.specs.Prelude.{ℕ, ◌+◌, ◌-◌, Bool, ◌&&◌, List, ◌++◌, eqb, length, take, drop, replicate}
use Rattle.rules.specs.Words.{same}
use Rattle.rules.specs.Answer as rules
use Rattle.words.specs.Words.{word_at}
use Rattle.answers.specs.declared.answer.Answer.{Answer}
use Rattle.replay_cases.specs.declared.case.Part.{Part}
use Rattle.replay_cases.specs.declared.case.Case.{Case}
use Rattle.replay_cases.specs.declared.verdict.Compared.{Compared}

-- a part's bytes
abbrev pub part : List ℕ → Part → List ℕ
part file p = take p.size (drop p.start file)

-- what every lent byte is before a call
abbrev pub output_fill : ℕ
output_fill = 170

abbrev pub detail_fill : ℕ
detail_fill = 85

-- an answer's five fields as code holds them
abbrev pub held : rules.Answer → Answer
held a = record { number = a.number; function = record { 0 = a.function }; second = record { 0 = a.second }; length = a.size; visits = a.visits }

-- whether the five words at a place of the file are an answer's fields
abbrev pub stored_fields : List ℕ → ℕ → Answer → Bool
stored_fields file at a =
    eqb (word_at file at) a.number
    && eqb (word_at file (at + 4)) a.function.0
    && eqb (word_at file (at + 8)) a.second.0
    && eqb (word_at file (at + 12)) a.length
    && eqb (word_at file (at + 16)) a.visits

-- whether a buffer holds the stored bytes, and behind them what it was filled with
abbrev pub as_stored : List ℕ → List ℕ → ℕ → Bool
as_stored buffer stored fill = same buffer (stored ++ replicate (length buffer - length stored) fill)

-- the verdict, and how many bytes were lent
abbrev pub judged : List ℕ → Case → rules.Answer → ℕ → Compared
judged file c a lent = record {
  fields = stored_fields file c.fields (held a);
  output = as_stored a.output (part file c.written) output_fill;
  detail = as_stored a.detail (part file c.told) detail_fill;
  answer = held a;
  bytes = lent;
}

-- all of the answer is as stored
abbrev pub agrees : Compared → Bool
agrees r = r.fields && r.output && r.detail
