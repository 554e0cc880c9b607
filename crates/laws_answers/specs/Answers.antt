-- What is proved of the two calls on every readable image; proofs/Answers.antt proves each statement.
use Rattle.std.specs.Prelude.{ℕ, ◌≤◌, ◌≡◌, List, length}
use Rattle.std.proofs.Math.Option.{some}
use Rattle.rules.specs.Words.{bytes_of}
use Rattle.rules.specs.Syntax.{CompiledSchema}
use Rattle.rules.specs.Image.{readable}
use Rattle.rules.specs.Refusal.{Refusal, Result, ok, err}
use Rattle.rules.specs.Answer.{Answer, project_call, signatures_call}
use Rattle.laws_answers.specs.Bounds.{most_visits, most_output, most_signatures}

-- of any call: what it gives for an implementation's number and a schema
module _ (call : ℕ → CompiledSchema → Result (ℕ × List ℕ)) where
  -- a refusal's detail fits the 576 bytes that a caller lends
  abbrev pub DetailFits : Type 0
  DetailFits = (image : List ℕ) (schema : CompiledSchema) → readable image ≡ some schema → (row : ℕ) (r : Refusal) → call row schema ≡ err r → length (bytes_of r.detail) ≤ 576

  -- an accepted answer has at most so many visits and words
  abbrev pub Bounded : ℕ → ℕ → Type 0
  Bounded most_visits most_words =
      (image : List ℕ) (schema : CompiledSchema) → readable image ≡ some schema
      → (row visits : ℕ) (words : List ℕ) → call row schema ≡ ok (visits, words) → (visits ≤ most_visits) × (length words ≤ most_words)

-- of the two calls
abbrev pub ProjectDetailFits : Type 0
ProjectDetailFits = DetailFits project_call

abbrev pub SignaturesDetailFits : Type 0
SignaturesDetailFits = DetailFits signatures_call

abbrev pub ProjectBounded : Type 0
ProjectBounded = Bounded project_call most_visits most_output

abbrev pub SignaturesBounded : Type 0
SignaturesBounded = Bounded signatures_call most_visits most_signatures

-- two answers that a call's statement allows are one
abbrev pub OneOfAnswers : (List ℕ → ℕ → List ℕ → List ℕ → Answer) → Type 0
OneOfAnswers answer = (image : List ℕ) (row : ℕ) (output detail : List ℕ) (a b : Answer) → a ≡ answer image row output detail → b ≡ answer image row output detail → a ≡ b
