-- What the code says of a reading: the place behind what it gives, or that it gives nothing.
use Rattle.std.specs.Prelude.{ℕ, ◌≡◌, List, Option, None, IsSomeAnd}
use Rattle.std.proofs.Math.Option.{Option as Maybe, none, some}
use Rattle.rules.specs.Words.{words}
use Rattle.rules.specs.Reader.{Rest, rest_at, Reader}

-- a section's words
unfoldable pub section_words : List ℕ → List ℕ
section_words section = words section

-- nothing where nothing is given; else the place behind what is given, and the words from there on are left
abbrev pub Agrees : {A : Type 0} → List ℕ → Maybe (A × Rest) → Option ℕ → Type 0
Agrees ws none c = c ≡ None
Agrees ws (some p) c = IsSomeAnd c (λ n. p.1 ≡ rest_at ws n)

-- c is what the reader says of the words from `at` on
pub record Says {A : Type 0} (r : Reader A) (ws : List ℕ) (at : ℕ) (c : Option ℕ) : Type 0 where
  pub is : Agrees ws (r (rest_at ws at)) c
