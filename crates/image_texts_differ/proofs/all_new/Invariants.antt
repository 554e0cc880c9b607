use mathlib.Core.Path.{◌≡◌}
use mathlib.Core.Bool.{true}
use Rattle.image_texts.specs.All.{all_below}
use Rattle.image_texts.specs.Rows.{new_row}
use Rattle.image_texts_differ.proofs.all_new.Given as goal

abbrev pub invariant-loop-i : goal.invariant-loop-i
invariant-loop-i l = all_below l.i (new_row l.image l.names_start) ≡ true
