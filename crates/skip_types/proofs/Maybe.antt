-- What may be absent, by its first word: 0, or 1 and something.
use Prim.Native.Nat.{ℕ, ◌+◌, ◌<◌}
use mathlib.Core.Path.{◌≡◌, sym}
use mathlib.Core.List.{List}
use mathlib.Core.Option.{Option, none, some}
use native.Mathlib.Omega.{arith}
use lib.ListN.{length, get_or}
use Rattle.image_words.specs.Gives.{MaybeAt}

-- r is the place behind it
module _ {A : Type 0} (ws : List ℕ) (Q : A → ℕ → ℕ → Type 0) (o : Option A) (at n : ℕ) (h : MaybeAt ws Q o at n) where
  pub maybe_inside : at < length ws
  maybe_inside = go o h
    where
      go : (o : Option A) → MaybeAt ws Q o at n → at < length ws
      go none h = h.0.inside
      go (some a) h = h.0.inside

  pub maybe_none : (w : ℕ) → w ≡ get_or ws at 0 → w ≡ 0 → at + 1 ≡ n
  maybe_none w e z = go o h
    where
      go : (o : Option A) → MaybeAt ws Q o at n → at + 1 ≡ n
      go none h = sym h.1
      go (some a) h = absurd (omega (arith, h.0.is))

  pub maybe_some : (w : ℕ) → w ≡ get_or ws at 0 → (w ≡ 0 → ⊥) → (r : ℕ) → ((a : A) → Q a (at + 1) n → r ≡ n) → r ≡ n
  maybe_some w e z r f = go o h
    where
      go : (o : Option A) → MaybeAt ws Q o at n → r ≡ n
      go none h = absurd (omega (arith, h.0.is))
      go (some a) h = f a h.1
