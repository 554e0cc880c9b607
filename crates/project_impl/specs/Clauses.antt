-- Contracts that are too long for a line, each called after its function.
use Rattle.std.specs.Prelude.{ℕ, List, length}
use Rattle.answers.specs.Answers.{Comes}
use Rattle.answers.specs.declared.answer.Outcome.{Outcome}
use Rattle.expected_functions.specs.Asked.{Asked}
use Rattle.image_layout.specs.declared.Layout.{Layout}
use Rattle.impl_trait.specs.Subjects.{About}
use Rattle.impl_trait.specs.declared.Subject.{Subject}
use Rattle.project_functions.specs.Asked.{Behind}
use Rattle.project_functions.specs.declared.parts.Parts.{Parts}
use Rattle.project_outcome.specs.Outcomes.{ComesTo}
use Rattle.rules.specs.Syntax.{MessageDef}
use Rattle.project_impl.specs.Asked.{Wanted, Few}
use Rattle.project_impl.specs.Steps.{tested_words, found_words, projected_words}

-- 9, 10, then the functions one after the other
abbrev pub ProjectsTested : Layout → ℕ → ℕ → Parts → List ℕ → List ℕ → Outcome → Type 0
ProjectsTested l start types parts out out' r =
    (w : Wanted l start types) (message : MessageDef)
    → Behind l w.asked.impl message w.asked.types_end parts.fields parts.target
    → ComesTo (tested_words w.asked.impl message w.signatures) (length out) 0 out out' r

-- the projection behind an implementation, its trait and its message
abbrev pub ProjectsFound : Layout → ℕ → ℕ → ℕ → ℕ → List ℕ → List ℕ → Outcome → Type 0
ProjectsFound l start types fields target out out' r =
    (a : Asked l start types) (message : MessageDef) → Behind l a.impl message a.types_end fields target
    → Few (found_words a.impl message a.schema a.trait) → Comes (found_words a.impl message a.schema a.trait) out out' r

-- the projection behind an implementation and its trait
abbrev pub Projects : Layout → Subject → List ℕ → List ℕ → Outcome → Type 0
Projects l f out out' r =
    (a : About l f) → Few (projected_words a.schema a.impl a.trait) → Comes (projected_words a.schema a.impl a.trait) out out' r
