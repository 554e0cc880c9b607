-- Contracts that are too long for a line, each called after its function.
use Rattle.std.specs.Prelude.{ℕ, List, Option}
use Rattle.image_layout.specs.declared.Layout.{Layout}
use Rattle.rules.specs.Output.{param_words, listed}
use Rattle.rules.specs.Signatures.{poisoned_params, resolve_params, resolve_return, resolve_signature}
use Rattle.expected_signature.specs.Here.{ParamHere, ParamsHere, ReturnHere, FunctionHere}
use Rattle.expected_signature.specs.Parts.{PartSays, poisoned_param, resolve_param, normal_words, normal_poisoned, words_of, poisoned_signature}
use Rattle.expected_signature.specs.declared.part.Part.{Part}

-- one parameter: substituted, written, and whether it is poisoned
abbrev pub ResolvesParam : Layout → ℕ → List ℕ → List ℕ → List ℕ → ℕ → Option Part → Type 0
ResolvesParam l at params out out' to r =
    (h : ParamHere l params at) → PartSays param_words poisoned_param (resolve_param h.schema h.seen h.tree) h.behind to out out' r

-- all parameters of a function
abbrev pub ResolvesParams : Layout → ℕ → List ℕ → List ℕ → List ℕ → ℕ → Option Part → Type 0
ResolvesParams l at params out out' to r =
    (h : ParamsHere l params at)
    → PartSays (listed param_words) poisoned_params (resolve_params h.schema h.seen h.tree) h.behind to out out' r

-- the return, with Void as none
abbrev pub ResolvesReturn : Layout → ℕ → List ℕ → List ℕ → List ℕ → ℕ → Option Part → Type 0
ResolvesReturn l at params out out' to r =
    (h : ReturnHere l params at)
    → PartSays normal_words normal_poisoned (resolve_return h.schema h.seen h.tree) h.behind to out out' r

-- the whole signature
abbrev pub ResolvesSignature : Layout → ℕ → List ℕ → List ℕ → List ℕ → ℕ → Option Part → Type 0
ResolvesSignature l at params out out' to r =
    (h : FunctionHere l params at)
    → PartSays words_of poisoned_signature (resolve_signature h.schema h.seen h.tree) h.behind to out out' r
