-- What an ending says: the call's answer, or that its words are still to be written.
use Rattle.std.specs.Prelude.{ℕ, ◌≤◌, ◌≡◌, true, List, Option, IfSome, IfNone, length}
use Rattle.rules.specs.Refusal.{Result}
use Rattle.rules.specs.Answer.{finished}
use Rattle.answers.specs.declared.answer.Answer.{Answer}
use Rattle.answers.specs.declared.answer.Outcome.{Outcome}
use Rattle.answers.specs.Answers.{answer_of, Comes}

-- of a first pass that came to m and left `first` behind, whatever the call was
pub record Ends (m : Outcome) (first output output' detail detail' : List ℕ) (r : Option Answer) : Type 0 where
  pub answered : IfSome r (λ a. (call : Result (ℕ × List ℕ)) (blank : List ℕ) → Comes call blank first m → answer_of a output' detail' ≡ finished call output detail)
  pub to_write : IfNone r ((m.ok ≡ true) × (m.length ≤ length output) × (output' ≡ output) × (detail' ≡ detail))
