use mathlib.Core.Path.{◌≡◌}
use lib.ListN.{length, drop}
use Rattle.rules.specs.Words.{same}
use Rattle.image_texts.proofs.same.same_text.Given as goal

-- what is left of the two decides
abbrev pub invariant-loop-k : goal.invariant-loop-k
invariant-loop-k l = (length l.a ≡ length l.b) × (same (drop l.k l.a) (drop l.k l.b) ≡ same l.a l.b)
