use mathlib.Core.Path.{◌≡◌}
use lib.ListN.{drop}
use Rattle.image_texts_differ.specs.Hash.{hash_from}
use Rattle.image_texts_differ.proofs.hash.hash.Given as goal

abbrev pub invariant-loop-byte : goal.invariant-loop-byte
invariant-loop-byte l = hash_from l.h (drop l.byte-index l.s) ≡ hash_from 0 l.s
