-- `type_words::lent::push_front` meets its contract. The loop's invariant: below i stand the new words, from i on the old ones, and the word between is carried. Assumes nothing.
use Prim.Native.Nat.{ℕ, ◌+◌, ◌≤◌, ◌<◌}
use mathlib.Core.Path.{◌≡◌}
use mathlib.Core.List.{List, ◌∷◌}
use lib.ListN.{length, take, get_or}
use Rattle.type_words.proofs.lent.push_front.Given as goal

pub record Inv (word n : ℕ) (words₀ words : List ℕ) (carry i : ℕ) : Type 0 where
  pub within : i ≤ n + 1
  pub room : n < 64
  pub wide₀ : length words₀ ≡ 64
  pub wide : length words ≡ 64
  pub front : take i words ≡ take i (word ∷ words₀)
  pub back : (j : ℕ) → i ≤ j → get_or words j 0 ≡ get_or words₀ j 0
  pub held : carry ≡ get_or (word ∷ words₀) i 0

abbrev pub invariant-loop-i : goal.invariant-loop-i
invariant-loop-i l = Inv l.word l.n l.initial.words l.words l.carry l.i
