-- Things by a table of their places: the walk that makes it, and the look along it. Assumes nothing.
use Prim.Native.Nat.{ℕ, ◌+◌, ◌<◌, ◌≤◌}
use mathlib.Core.Path.{◌≡◌, sym, ap, subst, ◌∙◌}
use mathlib.Core.List.{List, [], ◌∷◌, ◌++◌, append-nil}
use native.Mathlib.Omega.{arith}
use native.Mathlib.Numerals.{add-one}
use lib.ListN.{length, get_or, take, drop, set, drop_of_length-le}
use lib.Seq.{append_snoc, drop-cons}
use Rattle.std.proofs.lemmas.List.{take-append-le}
use Rattle.pool_traits.proofs.Different.{take_more}
use Rattle.impl_functions.specs.Functions.{EachAt}
use Rattle.impl_functions.proofs.Walk as walk

module _ {A : Type 0} (Q : A → ℕ → ℕ → Type 0) where
  -- what is left, put behind the places in the table, gives all
  abbrev Completes : List A → List ℕ → ℕ → List A → Type 0
  Completes xs table i rest = (ps : List ℕ) → EachAt Q rest ps → EachAt Q xs (take i table ++ ps)

  abbrev pub Placing : List A → List ℕ → ℕ → ℕ → ℕ → ℕ → Type 0
  Placing xs table n count i next = walk.Left Q (Completes xs table i) n count i next

  module _ (xs : List A) (table : List ℕ) {n count i next : ℕ} (w : Placing xs table n count i next) where
    pub placed : i < count → i < length table → {k : ℕ} → ((x : A) (m : ℕ) → Q x next m → k ≡ m) → Placing xs (set table i next) n count (i + 1) k
    placed b inside behind = walk.turned _ _ w b (λ y ys m q s r c. walk.left _ _ ys r c (behind y m q)
        (λ ps e. subst (EachAt Q xs)
        (sym (ap (λ (zs : List ℕ). zs ++ ps) (take_more table i next inside) ∙ append_snoc (take i table) next ps)) (s (next ∷ ps) (m, q, e))))

    pub all_placed : count ≤ i → count ≡ length xs → EachAt Q xs (take (length xs) table)
    all_placed b c = let e = walk.ended _ _ w b in
        subst (λ (k : ℕ). EachAt Q xs (take k table)) (e.0 ∙ c) (subst (EachAt Q xs) (append-nil (take i table)) (e.1 [] tt))

    -- the table stands in front of other words
    pub all_filled : count ≤ i → count ≡ length xs → length table ≡ count → (behind : List ℕ) → EachAt Q xs (take (length xs) (table ++ behind))
    all_filled b c e behind = subst (EachAt Q xs) (sym (take-append-le (length xs) table behind (omega (arith, c, e)))) (all_placed b c)

  -- over the places, and what is so of those that are left
  module _ (places : List ℕ) (So : List A → Type 0) where
    -- after i of them the others stand at the places from the i-th on
    pub record Rest (i : ℕ) : Type 0 where
      pub rest : List A
      pub each : EachAt Q rest (drop i places)
      pub so : So rest

    module _ {i : ℕ} (w : Rest i) where
      -- there is a next one, and others behind it
      pub turned : {P : Type 0} → i < length places → ((x : A) (xs : List A) (m : ℕ) → Q x (get_or places i 0) m → So (x ∷ xs) → EachAt Q xs (drop (i + 1) places) → P) → P
      turned {P} b f = go w.rest (subst (EachAt Q w.rest) (drop-cons places i 0 b ∙ ap (λ (k : ℕ). get_or places i 0 ∷ drop k places) (sym (add-one i))) w.each) w.so
        where
          go : (rest : List A) → EachAt Q rest (get_or places i 0 ∷ drop (i + 1) places) → So rest → P
          go [] e s = absurd e
          go (x ∷ xs) e s = f x xs e.0 e.1 s e.2

      -- there is none
      pub ended : length places ≤ i → So []
      ended b = go w.rest (subst (EachAt Q w.rest) (drop_of_length-le places b) w.each) w.so
        where
          go : (rest : List A) → EachAt Q rest [] → So rest → So []
          go [] e s = s
          go (x ∷ xs) e s = absurd e

    pub passed : (xs : List A) {i : ℕ} → EachAt Q xs (drop i places) → So xs → Rest i
    passed xs e s = record { rest = xs; each = e; so = s }
