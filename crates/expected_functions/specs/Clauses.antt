-- Contracts that are too long for a line, each called after its function.
use Rattle.std.specs.Prelude.{ℕ, List}
use Rattle.answers.specs.Answers.{Comes}
use Rattle.answers.specs.declared.answer.Outcome.{Outcome}
use Rattle.image_layout.specs.declared.Layout.{Layout}
use Rattle.rules.specs.Signatures.{expected_list}
use Rattle.expected_functions.specs.Asked.{FunctionsHere, in_words}

-- the signatures of the functions that stand there, one after the other
abbrev pub ListsExpected : Layout → ℕ → List ℕ → List ℕ → List ℕ → Outcome → Type 0
ListsExpected l at params out out' r =
    (h : FunctionsHere l params at) → Comes (in_words (expected_list h.schema h.seen h.tree)) out out' r
