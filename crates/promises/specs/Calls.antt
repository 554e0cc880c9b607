-- The promises as they are of calls of `project_impl`: what the call gives back, and what stands in the two buffers after it.
use Rattle.std.specs.Prelude.{ℕ, ◌≤◌, ◌≡◌, List, [], ◌∷◌, ◌++◌, length, take}
use Rattle.std.proofs.Math.Option.{some}
use Rattle.rules.specs.Words.{NONE, bytes_of, over_start}
use Rattle.rules.specs.Syntax.{ImplDef, CompiledSchema}
use Rattle.rules.specs.Refusal.{ok}
use Rattle.rules.specs.Image.{readable}
use Rattle.rules.specs.Project.{find_implementation}
use Rattle.rules.specs.Answer.{project_answer}
use Rattle.rules.specs.Edges.{whole_image}
use Rattle.answers.specs.declared.answer.Answer.{Answer}
use Rattle.answers.specs.Answers.{answer_of}
use Rattle.promises.specs.Bare.{SameBodies}
use Rattle.promises.specs.Order.{Relisted}
use Rattle.promises.specs.Projects.{Bytes}
use Rattle.promises.specs.Written.{Together}

-- a call: its image and row, the two buffers lent to it, its answer, and the buffers after it
pub record Made : Type 0 where
  pub image : List ℕ
  pub row : ℕ
  pub output_before : List ℕ
  pub detail_before : List ℕ
  pub answer : Answer
  pub output : List ℕ
  pub detail : List ℕ

-- what `portable::project_impl` ensures of a call, on every input: `portable::twice` holds the two against each other
abbrev pub Projected : Made → Type 0
Projected c = answer_of c.answer c.output c.detail ≡ project_answer c.image c.row c.output_before c.detail_before

-- the bytes that an accepted call wrote
abbrev pub wrote : Made → List ℕ
wrote c = take c.answer.length c.output

-- 1. Two accepted calls on one image that wrote the same bytes, into outputs of any lengths, had the same bodies before them
abbrev pub SameBodiesBefore : Made → Made → Type 0
SameBodiesBefore c d =
    c.image ≡ d.image → c.answer.number ≡ 0 → d.answer.number ≡ 0 → wrote c ≡ wrote d
    → (schema : CompiledSchema) (i j : ImplDef) → readable c.image ≡ some schema → find_implementation schema c.row ≡ ok i → find_implementation schema d.row ≡ ok j
    → SameBodies i j

abbrev pub CallsSameBodies : Type 0
CallsSameBodies = (c d : Made) → Projected c → Projected d → Bytes c.image → SameBodiesBefore c d

-- 2. Of two accepted calls on any images, the first did not write the beginning alone of what the second wrote; c and d being any two, neither did
abbrev pub NotTheBeginning : Made → Made → Type 0
NotTheBeginning c d = c.answer.number ≡ 0 → d.answer.number ≡ 0 → (rest : List ℕ) → wrote c ++ rest ≡ wrote d → wrote c ≡ wrote d

abbrev pub NoCallBeginsAnother : Type 0
NoCallBeginsAnother = (c d : Made) → Projected c → Projected d → Bytes c.image → Bytes d.image → NotTheBeginning c d

-- 3. Two calls on one image with equal room, for implementations that list the same functions in any order, are accepted together
abbrev pub AcceptedTogether : Made → Made → Type 0
AcceptedTogether c d =
    c.image ≡ d.image → length c.output_before ≡ length d.output_before → length c.detail_before ≡ length d.detail_before
    → (schema : CompiledSchema) (i j : ImplDef) → readable c.image ≡ some schema → find_implementation schema c.row ≡ ok i → find_implementation schema d.row ≡ ok j
    → Relisted i j → Together (answer_of c.answer c.output c.detail) (answer_of d.answer d.output d.detail)

abbrev pub CallsTogether : Type 0
CallsTogether = (c d : Made) → Projected c → Projected d → AcceptedTogether c d

-- Two calls with the same question give the same answer, and leave the same in both buffers
abbrev pub AnsweredAlike : Made → Made → Type 0
AnsweredAlike c d =
    c.image ≡ d.image → c.row ≡ d.row → c.output_before ≡ d.output_before → c.detail_before ≡ d.detail_before
    → answer_of c.answer c.output c.detail ≡ answer_of d.answer d.output d.detail

abbrev pub OneAnswer : Type 0
OneAnswer = (c d : Made) → Projected c → Projected d → AnsweredAlike c d

-- 01's whole case, the one P case that is an image: what the call answers of it, given room
pub record AnswersWhole (c : Made) : Type 0 where
  pub number : c.answer.number ≡ 0
  pub function : c.answer.function.0 ≡ NONE
  pub second : c.answer.second.0 ≡ NONE
  pub size : c.answer.length ≡ 48
  pub visits : c.answer.visits ≡ 1
  pub output : c.output ≡ over_start (bytes_of (1 ∷ 0 ∷ 0 ∷ 1 ∷ 1 ∷ 1 ∷ 2 ∷ 1 ∷ 1 ∷ 0 ∷ 5 ∷ 0 ∷ [])) c.output_before
  pub detail : c.detail ≡ c.detail_before

abbrev pub WholeCase : Type 0
WholeCase = (c : Made) → Projected c → c.image ≡ whole_image → c.row ≡ 2 → 48 ≤ length c.output_before → 576 ≤ length c.detail_before → AnswersWhole c
