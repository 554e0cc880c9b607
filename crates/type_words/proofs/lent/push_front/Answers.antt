-- `type_words::lent::push_front` meets its contract. The loop's invariant: below i stand the new words, from i on the old ones, and the word between is carried. Assumes nothing.
use Prim.Native.Nat.{ℕ, ◌+◌, ◌≤◌, ◌<◌}
use native.Mathlib.Omega.{arith}
use native.Mathlib.Numerals.{add-one}
use mathlib.Core.Path.{◌≡◌, ◌∙◌}
use mathlib.Core.List.{List, ◌∷◌}
use lib.ListN.{length, take, get_or}
use Rattle.type_words.proofs.Runs.{counted, grown}
use Rattle.type_words.proofs.lent.push_front.Goals as goal

record Inv (word n : ℕ) (words₀ words : List ℕ) (carry i : ℕ) : Type 0 where
  within : i ≤ n + 1
  room : n < 64
  wide₀ : length words₀ ≡ 64
  wide : length words ≡ 64
  front : take i words ≡ take i (word ∷ words₀)
  back : (j : ℕ) → i ≤ j → get_or words j 0 ≡ get_or words₀ j 0
  held : carry ≡ get_or (word ∷ words₀) i 0

pub returns : goal.returns
returns c =
    let v = c.loop-i.invariant in
    let e : c.loop-i.i ≡ c.args.n + 1 = omega (arith, v.within) in
    (λ p. grown _ _ (counted _ _ _ v.wide (omega (arith, v.room)) (rw e at v.front ∙ rw add-one)), v.wide)
