-- Contracts that are too long for a line, each called after its function.
use Rattle.std.specs.Prelude.{ℕ, List}
use Rattle.call_answer.specs.Calls.{answer_for}
use Rattle.call_answer.specs.declared.Call.{Call}
use Rattle.export_block.specs.Block.{Exported}
use Rattle.rules.specs.Answer.{signatures_answer, project_answer}

-- the answer of the call that is asked, in the lent buffers and the block
abbrev pub ExportsCall : Call → List ℕ → ℕ → List ℕ → List ℕ → List ℕ → List ℕ → List ℕ → List ℕ → ℕ → Type 0
ExportsCall call image number output output' detail detail' answer answer' r =
    Exported (answer_for call image number output detail) r output output' detail detail' answer answer'

-- the answer of `expected_signatures`, in the lent buffers and the block
abbrev pub ExportsExpected : List ℕ → ℕ → List ℕ → List ℕ → List ℕ → List ℕ → List ℕ → List ℕ → ℕ → Type 0
ExportsExpected image number output output' detail detail' answer answer' r =
    Exported (signatures_answer image number output detail) r output output' detail detail' answer answer'

-- the answer of `project_impl`, in the lent buffers and the block
abbrev pub ExportsProject : List ℕ → ℕ → List ℕ → List ℕ → List ℕ → List ℕ → List ℕ → List ℕ → ℕ → Type 0
ExportsProject image number output output' detail detail' answer answer' r =
    Exported (project_answer image number output detail) r output output' detail detail' answer answer'
