-- The rules' answer, of the five fields that code gives back and the two buffers after the call.
use Rattle.std.specs.Prelude.{ℕ, ◌≡◌, true, false, List}
use Rattle.rules.specs.Words.{NONE}
use Rattle.rules.specs.Refusal as rules
use Rattle.rules.specs.Refusal.{Result, ok, err, refusal}
use Rattle.rules.specs.Answer as rules_answer
use Rattle.rules.specs.Answer.{refused}
use Rattle.answers.specs.declared.answer.Answer.{Answer}
use Rattle.answers.specs.declared.answer.Outcome.{Outcome}
use Rattle.answers.specs.Refusals.{refusal_of}
use Rattle.answers.specs.Writes.{Writes}

unfoldable pub answer_of : Answer → List ℕ → List ℕ → rules_answer.Answer
answer_of a output detail = record {
  number = a.number;
  function = a.function.0;
  second = a.second.0;
  size = a.length;
  visits = a.visits;
  output = output;
  detail = detail;
}

-- a refuses e, whatever the output: from one detail to another
abbrev pub Refuses : Answer → rules.Refusal → List ℕ → List ℕ → Type 0
Refuses a e old new = (output : List ℕ) → answer_of a output new ≡ refused e output old

-- a refuses with a number alone and writes nothing
abbrev pub RefusesAlone : Answer → ℕ → Type 0
RefusesAlone a n = (detail : List ℕ) → Refuses a (refusal n) detail detail

-- a has these fields, and no names
pub record Unnamed (a : Answer) (number n visits : ℕ) : Type 0 where
  pub number_is : a.number ≡ number
  pub function_is : a.function.0 ≡ NONE
  pub second_is : a.second.0 ≡ NONE
  pub length_is : a.length ≡ n
  pub visits_is : a.visits ≡ visits

-- a says 24 of so many bytes
abbrev pub TooShort : Answer → ℕ → Type 0
TooShort a n = Unnamed a 24 n 0

-- a accepts so many bytes
abbrev pub AcceptsAll : Answer → ℕ → ℕ → Type 0
AcceptsAll a n visits = Unnamed a 0 n visits

abbrev pub Agrees : Result (ℕ × List ℕ) → List ℕ → List ℕ → Outcome → Type 0
Agrees (err e) old new r = (r.ok ≡ false) × (refusal_of r.refusal ≡ e)
Agrees (ok p) old new r = (r.ok ≡ true) × (r.visits ≡ p.0) × Writes p.1 0 r.length old new

-- what comes of a call: its refusal, or its visits and its words, written over an old output as far as they fit
pub record Comes (call : Result (ℕ × List ℕ)) (old new : List ℕ) (r : Outcome) : Type 0 where
  pub is : Agrees call old new r
