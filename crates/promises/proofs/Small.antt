-- Lists of numbers below a limit, and the limit of a word.
use Prim.Native.Nat.{ℕ, zero, suc, ◌<◌}
use mathlib.Core.List.{List, [], ◌∷◌, ◌++◌}
use mathlib.Core.Option.{Option, none, some}
use native.Mathlib.Omega.{arith}
use lib.ListN.{length, take, drop}
use Rattle.rules.specs.Words.{words}
use Rattle.rules.specs.Output.{each, listed}
use Rattle.rules.specs.Good.{All, AllOption, Below}
use Rattle.rules.specs.Exact.{optional}

-- a word is below 2 to the 32
abbrev pub WORD : ℕ
WORD = 4294967296

-- words, each below it
abbrev pub Small : List ℕ → Type 0
Small ws = Below WORD ws

module _ {A : Type 0} (P : A → Type 0) where
  pub all_append : (xs ys : List A) → All P xs → All P ys → All P (xs ++ ys)
  all_append [] ys g h = h
  all_append (x ∷ xs) ys g h = (g.0, all_append xs ys g.1 h)

  all_left : (xs ys : List A) → All P (xs ++ ys) → All P xs
  all_left [] ys h = tt
  all_left (x ∷ xs) ys h = (h.0, all_left xs ys h.1)

  all_right : (xs ys : List A) → All P (xs ++ ys) → All P ys
  all_right [] ys h = h
  all_right (x ∷ xs) ys h = all_right xs ys h.1

  pub all_take : (n : ℕ) (xs : List A) → All P xs → All P (take n xs)
  all_take zero xs h = tt
  all_take (suc n) [] h = tt
  all_take (suc n) (x ∷ xs) h = (h.0, all_take n xs h.1)

  pub all_drop : (n : ℕ) (xs : List A) → All P xs → All P (drop n xs)
  all_drop zero xs h = h
  all_drop (suc n) [] h = tt
  all_drop (suc n) (x ∷ xs) h = all_drop n xs h.1

pub all_both : {A : Type 0} (P Q R : A → Type 0) → ((x : A) → P x → Q x → R x) → (xs : List A) → All P xs → All Q xs → All R xs
all_both P Q R k [] g h = tt
all_both P Q R k (x ∷ xs) g h = (k x g.0 h.0, all_both P Q R k xs g.1 h.1)

-- words one behind the other
pub small_append : (xs ys : List ℕ) → Small xs → Small ys → Small (xs ++ ys)
small_append xs ys g h = all_append (λ x. x < WORD) xs ys g h

pub small_left : (xs ys : List ℕ) → Small (xs ++ ys) → Small xs
small_left xs ys h = all_left (λ x. x < WORD) xs ys h

pub small_right : (xs ys : List ℕ) → Small (xs ++ ys) → Small ys
small_right xs ys h = all_right (λ x. x < WORD) xs ys h

-- the words of bytes are small
pub small_words : (bytes : List ℕ) → Below 256 bytes → Small (words bytes)
unfolding words
small_words [] h = tt
small_words (a ∷ []) h = tt
small_words (a ∷ b ∷ []) h = tt
small_words (a ∷ b ∷ c ∷ []) h = tt
small_words (a ∷ b ∷ c ∷ d ∷ rest) h = (omega (arith, h.0, h.1.0, h.1.1.0, h.1.1.1.0), small_words rest h.1.1.1.1)

module _ {A : Type 0} (words_of : A → List ℕ) where
  -- lists whose words are small have small parts, and the other way round
  pub small_each : (xs : List A) → Small (each words_of xs) → All (λ x. Small (words_of x)) xs
  unfolding each
  small_each [] h = tt
  small_each (x ∷ xs) h = (small_left (words_of x) _ h, small_each xs (small_right (words_of x) _ h))

  pub each_small : (P : A → Type 0) → ((x : A) → P x → Small (words_of x)) → (xs : List A) → All P xs → Small (each words_of xs)
  unfolding each
  each_small P k [] h = tt
  each_small P k (x ∷ xs) h = small_append (words_of x) _ (k x h.0) (each_small P k xs h.1)

  pub small_listed : (xs : List A) → Small (listed words_of xs) → All (λ x. Small (words_of x)) xs
  unfolding listed
  small_listed xs h = small_each xs h.1

  pub listed_small : (P : A → Type 0) → ((x : A) → P x → Small (words_of x)) → (xs : List A) → length xs < WORD → All P xs → Small (listed words_of xs)
  unfolding listed
  listed_small P k xs l h = (l, each_small P k xs h)

  pub small_optional : (o : Option A) → Small (optional words_of o) → AllOption (λ x. Small (words_of x)) o
  small_optional none h = tt
  small_optional (some x) h = h.1
