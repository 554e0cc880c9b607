-- Reading words of a list from a place on: what is read with the place behind it, or nothing.
use Rattle.std.specs.Prelude.{ℕ, zero, suc, ◌+◌, Bool, true, false, List, [], ◌∷◌, drop, ltb}
use Rattle.std.proofs.Math.Option.{Option, none, some}

-- a place among some words: its position, and the words from there on (both, so that a reading computes in linear time and still knows where it is)
pub record Rest : Type 0 where
  pub at : ℕ
  pub left : List ℕ

abbrev pub rest_at : List ℕ → ℕ → Rest
rest_at ws at = record { at = at; left = drop at ws }

abbrev pub Reader : Type 0 → Type 0
Reader A = Rest → Option (A × Rest)

-- what follows a reading that gave something
unfoldable pub bound : {A B : Type 0} → Option (A × Rest) → (A → Reader B) → Option (B × Rest)
bound none f = none
bound (some p) f = f p.0 p.1

infixl 20 ◌>>=◌
unfoldable pub ◌>>=◌ : {A B : Type 0} → Reader A → (A → Reader B) → Reader B
◌>>=◌ r f = λ p. bound (r p) f

unfoldable pub give : {A : Type 0} → A → Reader A
give a = λ p. some (a, p)

unfoldable pub fail : {A : Type 0} → Reader A
fail = λ p. none

-- a rule of the image
unfoldable pub rule : Bool → Reader (Unit {0})
rule true = λ p. some (tt, p)
rule false = λ p. none

-- the position itself
unfoldable pub here : Reader ℕ
here = λ p. some (p.at, p)

-- the first of some words, and the place behind it
unfoldable pub first : ℕ → List ℕ → Option (ℕ × Rest)
first at [] = none
first at (w ∷ ws) = some (w, record { at = at + 1; left = ws })

-- one word
unfoldable pub word : Reader ℕ
word = λ p. first p.at p.left

-- a word under a limit
unfoldable pub below : ℕ → Reader ℕ
below limit = do
  w ← word
  _ ← rule (ltb w limit)
  give w

-- n readings, put together from the last to the first
unfoldable pub repeat : {A B : Type 0} → B → (A → B → B) → ℕ → Reader A → Reader B
repeat nil cons zero r = give nil
repeat nil cons (suc n) r = do
  x ← r
  xs ← repeat nil cons n r
  give (cons x xs)

abbrev pub times : {A : Type 0} → ℕ → Reader A → Reader (List A)
times n r = repeat [] ◌∷◌ n r

-- a count, at most `most`, and so many readings
unfoldable pub many : {A : Type 0} → ℕ → Reader A → Reader (List A)
many most r = do
  n ← below (suc most)
  times n r

-- 0, or 1 and a reading
unfoldable pub option : {A : Type 0} → Reader A → ℕ → Reader (Option A)
option r zero = give none
option r (suc n) = do
  a ← r
  give (some a)

unfoldable pub maybe : {A : Type 0} → Reader A → Reader (Option A)
maybe r = do
  n ← below 2
  option r n

-- a reading of other words from a place on; the own place stays
unfoldable pub from : {A : Type 0} → List ℕ → ℕ → Reader A → Reader A
from words start r = λ p. bound (r (rest_at words start)) (λ a q. some (a, p))
