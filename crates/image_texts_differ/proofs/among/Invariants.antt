use mathlib.Core.Path.{◌≡◌}
use mathlib.Core.Bool.{false}
use Rattle.image_texts_differ.specs.Hash.{Apart}
use Rattle.image_texts_differ.proofs.among.Given as goal

abbrev pub invariant-loop-number : goal.invariant-loop-number
invariant-loop-number l = l.any ≡ false → Apart l.hs l.number-index l.h
