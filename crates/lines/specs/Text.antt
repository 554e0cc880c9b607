-- Bytes laid into a lent text, as far as it goes.
use Rattle.std.specs.Prelude.{ℕ, suc, ◌+◌, min, ◌≡◌, List, [], ◌∷◌, length, set}

-- bytes over a text from a place on; past the text's end nothing is written
unfoldable pub overlay : ℕ → List ℕ → List ℕ → List ℕ
overlay at [] xs = xs
overlay at (b ∷ bs) xs = overlay (suc at) bs (set xs at b)

-- `more` from `at` on, cut where the text ends; what comes next goes to `next`
pub record Tells (more : List ℕ) (at next : ℕ) (old new : List ℕ) : Type 0 where
  pub place : next ≡ min (length old) (at + length more)
  pub bytes : new ≡ overlay at more old
