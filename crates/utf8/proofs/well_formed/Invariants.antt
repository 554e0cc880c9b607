-- `utf8::well_formed` meets its contract. Assumes nothing.
use mathlib.Core.Path.{◌≡◌}
use lib.ListN.{drop}
use Rattle.rules.specs.Utf8.{well_formed_from, well_formed}
use Rattle.utf8.specs.Due.{due_of}
use Rattle.utf8.proofs.well_formed.Given as goal

-- what is due, of the bytes that are left, decides
abbrev pub invariant-loop-byte : goal.invariant-loop-byte
invariant-loop-byte l = well_formed_from (due_of l.d) (drop l.byte-index l.byte-items) ≡ well_formed l.fn.text
