-- A walk along things that stand one behind the other: what is left decides. Assumes nothing.
use Prim.Native.Nat.{ℕ, ◌+◌, ◌<◌, ◌≤◌}
use mathlib.Core.Path.{◌≡◌, sym, subst}
use mathlib.Core.List.{List, [], ◌∷◌}
use native.Mathlib.Omega.{arith}
use lib.ListN.{length}
use Rattle.image_words.specs.Gives.{Row}

-- over what stands where, and what is so of those that are left
module _ {A : Type 0} (Q : A → ℕ → ℕ → Type 0) (So : List A → Type 0) where
  -- after i of them the others stand from `next` on
  pub record Left (n count i next : ℕ) : Type 0 where
    pub rest : List A
    pub many : i + length rest ≡ count
    pub row : Row Q rest next n
    pub so : So rest

  module _ {n count i next : ℕ} (w : Left n count i next) where
    -- there is a next one, and others behind it
    pub turned : {P : Type 0} → i < count → ((x : A) (xs : List A) (m : ℕ) → Q x next m → So (x ∷ xs) → Row Q xs m n → i + 1 + length xs ≡ count → P) → P
    turned {P} b f = go w.rest w.many w.row w.so
      where
        go : (rest : List A) → i + length rest ≡ count → Row Q rest next n → So rest → P
        go [] c r s = absurd (omega arith)
        go (x ∷ xs) c r s = f x xs r.0 r.1 s r.2 (omega arith)

    -- there is none
    pub ended : count ≤ i → (i ≡ count) × So []
    ended b = go w.rest w.many w.so
      where
        go : (rest : List A) → i + length rest ≡ count → So rest → (i ≡ count) × So []
        go [] c s = (omega arith, s)
        go (x ∷ xs) c s = absurd (omega arith)

  -- the others stand from the place behind the one that was met
  pub left : (xs : List A) {n count i next m : ℕ} → Row Q xs m n → i + length xs ≡ count → next ≡ m → So xs → Left n count i next
  left xs {n} r c e s = record { rest = xs; many = c; row = subst (λ (k : ℕ). Row Q xs k n) (sym e) r; so = s }

  pub started : (xs : List A) {n count next first : ℕ} → Row Q xs first n → count ≡ length xs → next ≡ first → So xs → Left n count 0 next
  started xs r c e s = left xs r (omega (arith, c)) e s
