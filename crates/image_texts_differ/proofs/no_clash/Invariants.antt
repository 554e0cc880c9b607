use mathlib.Core.Path.{◌≡◌}
use mathlib.Core.Bool.{Bool, true, not}
use mathlib.Core.List.{List}
use Prim.Native.Nat.{ℕ}
use Rattle.rules.specs.Words.{same}
use Rattle.image_texts.specs.All.{all_below}
use Rattle.image_texts.specs.Rows.{row_text}
use Rattle.image_texts_differ.proofs.no_clash.Given as goal

abbrev pub apart : List ℕ → ℕ → ℕ → ℕ → Bool
apart image names_start i j = not (same (row_text image names_start j) (row_text image names_start i))

abbrev pub invariant-loop-j : goal.invariant-loop-j
invariant-loop-j l = all_below l.j (apart l.image l.names_start l.name.0) ≡ true
