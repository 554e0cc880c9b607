-- Contracts that are too long for a line, each called after its function.
use Rattle.std.specs.Prelude.{ℕ, ◌≡◌, List, [], map}
use Rattle.answers.specs.declared.answer.Outcome.{Outcome}
use Rattle.image_layout.specs.declared.Layout.{Layout}
use Rattle.project_outcome.specs.Outcomes.{Passes}
use Rattle.rules.specs.Project.{no_repeat, no_stranger}
use Rattle.rules.specs.Refusal.{◌>>=◌}
use Rattle.rules.specs.Syntax.{ImplFnDef, TraitFnDef}
use Rattle.impl_functions.specs.Functions.{Placed, AllAskedHere}

-- 10 at the first function whose name the trait does not ask for
abbrev pub TellsStrangers : Layout → ℕ → List ℕ → Outcome → Type 0
TellsStrangers l trait_at places r =
    (ts : List TraitFnDef) (m : ℕ) → AllAskedHere l ts trait_at m → (fs : List ImplFnDef) → Placed l fs places
    → Passes (no_stranger (map (λ t. t.name) ts) fs) r

-- 9, then 10
abbrev pub TellsNames : Layout → ℕ → List ℕ → List ℕ → Outcome → Type 0
TellsNames l trait_at places names r =
    (ts : List TraitFnDef) (m : ℕ) → AllAskedHere l ts trait_at m → (fs : List ImplFnDef) → Placed l fs places → names ≡ map (λ f. f.name) fs
    → Passes (no_repeat [] fs >>= λ _. no_stranger (map (λ t. t.name) ts) fs) r
