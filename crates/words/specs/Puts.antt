-- Writing words into a list of bytes, below a limit.
use Rattle.std.specs.Prelude.{ℕ, ◌+◌, cond, List, [], ◌∷◌, ◌++◌, length, take, drop, leb}
use Rattle.rules.specs.Words.{le}

-- ys in the place of as many of xs's elements, from at on
abbrev pub splice : ℕ → List ℕ → List ℕ → List ℕ
splice at ys xs = take at xs ++ ys ++ drop (at + length ys) xs

-- one word at a byte's place, where it ends at the limit or before; else nothing changes
unfoldable pub put : ℕ → ℕ → ℕ → List ℕ → List ℕ
put limit at w xs = cond (leb (at + 4) limit) (splice at (le w) xs) xs

-- words one after the other
unfoldable pub puts : ℕ → ℕ → List ℕ → List ℕ → List ℕ
puts limit at [] xs = xs
puts limit at (w ∷ ws) xs = puts limit (at + 4) ws (put limit at w xs)
