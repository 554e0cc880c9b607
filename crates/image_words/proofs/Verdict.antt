-- Laws: what the code says of a reading: the place behind what it gives, or that it gives nothing.
use Prim.Native.Nat.{ℕ}
use mathlib.Core.List.{List}
use Rattle.std.specs.Prelude.{Option}
use Rattle.rules.specs.Reader.{Reader}
use Rattle.image_words.specs.Verdict.{Says}

-- in a loop: what is said of the reading that is left, from `next` on, is said of the whole, from `at` on
pub record Left {A B : Type 0} (left : Reader A) (next : ℕ) (whole : Reader B) (ws : List ℕ) (at : ℕ) : Type 0 where
  pub so : (d : Option ℕ) → Says left ws next d → Says whole ws at d
