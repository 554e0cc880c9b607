use mathlib.Core.Path.{◌≡◌}
use lib.ListN.{length}
use Rattle.image_texts_differ.specs.Hash.{Hashes, Blank}
use Rattle.image_texts_differ.proofs.hash.hashes.Given as goal

abbrev pub invariant-loop-i : goal.invariant-loop-i
invariant-loop-i l = (length l.hs ≡ 1024) × Hashes l.image l.names_start l.i l.hs × Blank l.i l.hs
