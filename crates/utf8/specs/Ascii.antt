-- ASCII at a text's start: bytes that are characters by themselves.
use Rattle.std.specs.Prelude.{ℕ, zero, suc, ◌≤◌, ◌≡◌, Bool, true, ◌&&◌, List, length, get_or, drop, ltb}
use Rattle.rules.specs.Utf8.{well_formed}

-- the first n bytes are below 0x80
abbrev pub ascii_to : ℕ → List ℕ → Bool
ascii_to zero text = true
ascii_to (suc n) text = ascii_to n text && ltb (get_or text n 0) 0x80

-- a place inside the text from which on it is well-formed exactly when it is from its start
pub record Begins (text : List ℕ) (at : ℕ) : Type 0 where
  pub inside : at ≤ length text
  pub decides : well_formed (drop at text) ≡ well_formed text
