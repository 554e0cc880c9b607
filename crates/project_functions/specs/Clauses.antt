-- Contracts that are too long for a line, each called after its function.
use Rattle.std.specs.Prelude.{ℕ, List, ◌≡◌}
use Rattle.answers.specs.declared.answer.Outcome.{Outcome}
use Rattle.image_layout.specs.declared.Layout.{Layout}
use Rattle.project_outcome.specs.Outcomes.{ComesTo}
use Rattle.rules.specs.Syntax.{MessageDef, ImplDef}
use Rattle.rules.specs.declared.ids.NameId.{NameId}
use Rattle.project_functions.specs.Asked.{InOrder, Stand, All, One}
use Rattle.project_functions.specs.Steps.{list_words, one_words}
use Rattle.project_functions.specs.declared.parts.Parts.{Parts}

-- the words of the functions that the trait asks for, or the first refusal
abbrev pub ProjectsList : Layout → ℕ → List ℕ → List ℕ → List ℕ → Parts → List ℕ → List ℕ → ℕ → ℕ → Outcome → Type 0
ProjectsList l at names params places parts out out' limit to r =
    (h : All l params at) → InOrder names h.here.tree → (impl : ImplDef) (message : MessageDef) → Stand l places parts impl message
    → ComesTo (list_words impl message h.signatures) limit to out out' r

-- the words of one function that the trait asks for, or its refusal
abbrev pub ProjectsOne : Layout → ℕ → NameId → List ℕ → List ℕ → Parts → List ℕ → List ℕ → ℕ → ℕ → Outcome → Type 0
ProjectsOne l at name params places parts out out' limit to r =
    (k : One l params at) → name.0 ≡ k.here.tree.name → (impl : ImplDef) (message : MessageDef) → Stand l places parts impl message
    → ComesTo (one_words impl message k.signature) limit to out out' r
