-- Contracts that are too long for a line, each called after its function.
use Rattle.std.specs.Prelude.{ℕ, List}
use Rattle.answers.specs.declared.answer.Answer.{Answer}
use Rattle.promises.specs.Calls.{Made, Projected, SameBodiesBefore, NotTheBeginning, AcceptedTogether, AnsweredAlike}

-- a call of `project_impl`, from what it was lent and what came back
abbrev pub made : List ℕ → ℕ → List ℕ → List ℕ → List ℕ → List ℕ → Answer → Made
made image row output output' detail detail' answer =
    record { image = image; row = row; output_before = output; detail_before = detail; answer = answer; output = output'; detail = detail' }

-- both answers are the rules', and the theorems of `promises/specs/Calls` hold of the two calls, with no premise left of what a call ensures or of an image's bytes
pub record ProjectsTwice (c d : Made) : Type 0 where
  pub first : Projected c
  pub second : Projected d
  pub same_bodies : SameBodiesBefore c d
  pub first_begins_not : NotTheBeginning c d
  pub second_begins_not : NotTheBeginning d c
  pub together : AcceptedTogether c d
  pub alike : AnsweredAlike c d
