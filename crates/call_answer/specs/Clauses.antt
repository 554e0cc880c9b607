-- Contracts that are too long for a line, each called after its function.
use Rattle.std.specs.Prelude.{ℕ, List, ◌≡◌}
use Rattle.answers.specs.Answers.{Comes, answer_of}
use Rattle.answers.specs.declared.answer.Answer.{Answer}
use Rattle.answers.specs.declared.answer.Outcome.{Outcome}
use Rattle.image_layout.specs.Open.{Open}
use Rattle.image_layout.specs.declared.Layout.{Layout}
use Rattle.impl_trait.specs.Subjects.{About}
use Rattle.impl_trait.specs.declared.Subject.{Subject}
use Rattle.project_impl.specs.Asked.{Few}
use Rattle.rules.specs.Answer.{finished}
use Rattle.rules.specs.Syntax.{CompiledSchema}
use Rattle.rules.specs.declared.ids.TypeId.{TypeId}
use Rattle.call_answer.specs.Calls.{after_subject, call_of}
use Rattle.call_answer.specs.declared.Call.{Call}

-- what comes behind 3 and 4, of whatever implementation and trait were found
abbrev pub ComesAfterSubject : Call → Layout → Subject → List ℕ → List ℕ → Outcome → Type 0
ComesAfterSubject call l f out out' r =
    (a : About l f) → Few (after_subject call a.schema a.impl a.trait)
    → Comes (after_subject call a.schema a.impl a.trait) out out' r

-- the call's answer on the schema that the image holds, with every byte of both buffers
abbrev pub AnswersReadable : Call → Layout → TypeId → List ℕ → List ℕ → List ℕ → List ℕ → Answer → Type 0
AnswersReadable call l number output output' detail detail' r =
    (s : CompiledSchema) → Open l s → answer_of r output' detail' ≡ finished (call_of call number.0 s) output detail
