-- What a C form leaves in its three lent slices.
use Rattle.std.specs.Prelude.{ℕ, ◌<◌, ◌≤◌, ◌≡◌, List, [], ◌∷◌, length}
use Rattle.rules.specs.Words.{over_start}
use Rattle.rules.specs.Answer as rules
use Rattle.answers.specs.declared.answer.Answer.{Answer}

-- an answer's five words: number, function name, second name, length, visits
unfoldable pub five : rules.Answer → List ℕ
five a = a.number ∷ a.function ∷ a.second ∷ a.size ∷ a.visits ∷ []

-- the same of an answer as code holds it
unfoldable pub words_of : Answer → List ℕ
words_of a = a.number ∷ a.function.0 ∷ a.second.0 ∷ a.length ∷ a.visits ∷ []

-- the result where the block is short: the largest word, which is no number of 01
abbrev pub SHORT : ℕ
SHORT = 4294967295

-- with five words or more the slices are the answer's; with fewer nothing is touched
pub record Exported (a : rules.Answer) (result : ℕ) (output output' detail detail' block block' : List ℕ) : Type 0 where
  pub answered : 5 ≤ length block → (result ≡ a.number) × (output' ≡ a.output) × (detail' ≡ a.detail) × (block' ≡ over_start (five a) block)
  pub untouched : length block < 5 → (result ≡ SHORT) × (output' ≡ output) × (detail' ≡ detail) × (block' ≡ block)
