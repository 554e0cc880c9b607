-- whether row i has the text of the two halves
use mathlib.Core.Path.{◌≡◌}
use mathlib.Core.Bool.{Bool}
use mathlib.Core.List.{List, ◌∷◌, ◌++◌}
use Prim.Native.Nat.{ℕ, ◌-◌}
use Rattle.rules.specs.Words.{same}
use Rattle.image_texts.specs.Rows.{row_text, first_from}
use Rattle.image_qualified.proofs.find_qualified.Given as goal

abbrev pub has : List ℕ → ℕ → List ℕ → List ℕ → ℕ → Bool
has image names_start first second i = same (first ++ 46 ∷ second) (row_text image names_start i)

abbrev pub invariant-loop-i : goal.invariant-loop-i
invariant-loop-i l = first_from (has l.image l.names_start l.first l.second) (l.names - l.i) l.i ≡ first_from (has l.image l.names_start l.first l.second) l.names 0
