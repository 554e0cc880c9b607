-- So many things that are still to be gone past, one behind the other: what is left decides.
use Prim.Native.Nat.{ℕ, suc, ◌+◌, ◌-◌, ◌<◌, ◌≤◌}
use mathlib.Core.Path.{◌≡◌, refl, sym, ap, subst}
use mathlib.Core.List.{List, [], ◌∷◌, ◌++◌}
use native.Mathlib.Omega.{arith}
use lib.ListN.{length, length-append}
use Rattle.image_words.specs.Gives.{Row}
use Rattle.skip_types.specs.Pending.{Pending}

row_append : {A : Type 0} (Q : A → ℕ → ℕ → Type 0) (xs ys : List A) (at m n : ℕ) → Row Q xs at m → Row Q ys m n → Row Q (xs ++ ys) at n
row_append Q [] ys at m n r s = subst (λ (k : ℕ). Row Q ys k n) (sym r) s
row_append Q (x ∷ xs) ys at m n r s = (r.0, r.1, row_append Q xs ys r.0 m n r.2 s)

module _ {A : Type 0} {Q : A → ℕ → ℕ → Type 0} where
  pub none_left : {at n : ℕ} → n ≡ at → Pending Q 0 at n
  none_left e = record { things = []; many = refl; row = sym e }

  pub one_left : (a : A) {at n : ℕ} → Q a at n → Pending Q 1 at n
  one_left a {at} {n} q = record { things = a ∷ []; many = refl; row = (n, q, refl) }

  pub two_left : (a b : A) {at n : ℕ} (m : ℕ) → Q a at m → Q b m n → Pending Q 2 at n
  two_left a b {at} {n} m q r = record { things = a ∷ (b ∷ []); many = refl; row = (m, q, (n, r, refl)) }

  pub more_left : (a : A) {p at n : ℕ} (m : ℕ) → Q a at m → Pending Q p m n → Pending Q (suc p) at n
  more_left a m q h = record { things = a ∷ h.things; many = ap suc h.many; row = (m, q, h.row) }

  -- by the code's number, which is the same
  pub numbered : {p at n : ℕ} (z : ℕ) → z ≡ p → Pending Q p at n → Pending Q z at n
  numbered {p} {at} {n} z e h = subst (λ (k : ℕ). Pending Q k at n) (sym e) h

  -- from the code's place, which is the same
  pub moved : {p at n : ℕ} (z : ℕ) → z ≡ at → Pending Q p at n → Pending Q p z n
  moved {p} {at} {n} z e h = subst (λ (k : ℕ). Pending Q p k n) (sym e) h

  module _ {p at n : ℕ} (h : Pending Q p at n) where
    -- nothing is left
    pub ended : p ≡ 0 → at ≡ n
    ended z = go h.things h.many h.row
      where
        go : (xs : List A) → length xs ≡ p → Row Q xs at n → at ≡ n
        go [] m r = r
        go (x ∷ xs) m r = absurd (omega arith)

    -- one of them at least: what is so of the first
    pub of_first : {X : Type 0} → 0 < p → ((a : A) (m : ℕ) → Q a at m → X) → X
    of_first {X} l f = go h.things h.many h.row
      where
        go : (xs : List A) → length xs ≡ p → Row Q xs at n → X
        go [] m r = absurd (omega arith)
        go (x ∷ xs) m r = f x r.0 r.1

    -- the first is gone past up to its parts
    pub turned : {parts next q : ℕ} → 0 < p → ((a : A) (m : ℕ) → Q a at m → Pending Q parts next m) → q ≡ p - 1 + parts → Pending Q q next n
    turned {parts} {next} {q} l f e = go h.things h.many h.row
      where
        go : (xs : List A) → length xs ≡ p → Row Q xs at n → Pending Q q next n
        go [] m r = absurd (omega arith)
        go (x ∷ xs) m r =
            let k = f x r.0 r.1 in
            record {
              things = k.things ++ xs;
              many = omega (arith, length-append k.things xs, k.many);
              row = row_append Q k.things xs next r.0 n k.row r.2;
            }

-- each thing has a word at least, and starts inside: no more are pending than words are left
row_fits : {A : Type 0} (Q : A → ℕ → ℕ → Type 0) (len : ℕ) → ((a : A) (at m : ℕ) → Q a at m → (at < len) × (at < m)) → (xs : List A) (at n : ℕ) → Row Q xs at n → 0 < length xs → at + length xs ≤ len
row_fits Q len f [] at n r l = absurd (omega arith)
row_fits Q len f (x ∷ []) at n r l = omega (arith, (f x at r.0 r.1).0)
row_fits Q len f (x ∷ (y ∷ xs)) at n r l = let g = row_fits Q len f (y ∷ xs) r.0 n r.2 (omega arith) in omega (arith, (f x at r.0 r.1).1)

pub pending_fits : {A : Type 0} {Q : A → ℕ → ℕ → Type 0} (len : ℕ) → ((a : A) (at m : ℕ) → Q a at m → (at < len) × (at < m)) → {p at n : ℕ} → Pending Q p at n → 0 < p → at + p ≤ len
pending_fits {A} {Q} len f {p} {at} {n} h l = omega (arith, h.many, row_fits Q len f h.things at n h.row (omega (arith, h.many)))
