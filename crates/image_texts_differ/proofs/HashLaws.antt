-- A number made of a list: lists with different numbers differ.
use mathlib.Core.Path.{◌≡◌, refl, ap, ◌∙◌}
use mathlib.Core.Bool.{Bool, true, false, true≢false, ◌||◌}
use lib.Dec.{eqb}
use borrow.Author.Tests.{eqb-false}
use mathlib.Core.List.{List}
use Prim.Native.Nat.{ℕ, zero, suc, ◌+◌, ◌*◌, ◌%◌, ◌<◌, ◌≤◌}
use lib.ListN.{length, get_or, set, take, drop, length-take, drop_of_length-le, replicate}
use lib.Seq.{drop-cons, get_or-take, get_or-set_same, get_or-set_other}
use native.Mathlib.Omega.{arith}
use native.Mathlib.Nat.{lt_irrefl}
use native.Mathlib.Numerals.{add-one}
use borrow.Author.Count.{below_more}
use Rattle.rules.specs.Words.{same}
use Rattle.laws.proofs.Same.{same_false}
use Rattle.image_texts.specs.Rows.{row_text}
use Rattle.image_texts_differ.specs.Hash.{hash_from, hash_of, Hashes, Blank, Apart}

pub hash_differ : (xs ys : List ℕ) → (hash_of xs ≡ hash_of ys → ⊥) → same xs ys ≡ false
hash_differ xs ys h = same_false xs ys (λ e. h (ap hash_of e))

-- a turn of the loop, and its end
pub hash_step : (h : ℕ) (xs : List ℕ) (i : ℕ) → i < length xs → hash_from (h % 134217728 * 31 + get_or xs i 0) (drop (i + 1) xs) ≡ hash_from h (drop i xs)
unfolding hash_from
hash_step h xs i k = rw (add-one, drop-cons xs i 0 k)

pub hash_end : (h : ℕ) (xs : List ℕ) (i : ℕ) → length xs ≤ i → hash_from h (drop i xs) ≡ h
unfolding hash_from
hash_end h xs i k = ap (hash_from h) (drop_of_length-le xs {i = i} k)

-- one more
pub hashes_more : (image : List ℕ) (names_start i : ℕ) (hs : List ℕ) (h : ℕ) → i < length hs → h ≡ hash_of (row_text image names_start i)
    → Hashes image names_start i hs → Hashes image names_start (i + 1) (set hs i h)
hashes_more image names_start i hs h k e below =
    below_more (λ (j : ℕ). get_or (set hs i h) j 0 ≡ hash_of (row_text image names_start j)) i
    (λ j m. get_or-set_other hs i j h 0 (λ q. lt_irrefl i (rw q at m)) ∙ below j m)
    (get_or-set_same hs i h 0 k ∙ e)

pub blank_more : (i : ℕ) (hs : List ℕ) (h : ℕ) → Blank i hs → Blank (i + 1) (set hs i h)
blank_more i hs h b j l = get_or-set_other hs i j h 0 (omega arith) ∙ b j (omega arith)

pub blank_all : (m : ℕ) → Blank 0 (replicate m 0)
blank_all zero i l = refl
blank_all (suc m) zero l = refl
blank_all (suc m) (suc i) l = blank_all m i (omega arith)

-- one number more was compared
pub apart_more : (hs : List ℕ) (j h : ℕ) (any : Bool) → (any ≡ false → Apart hs j h) → any || eqb (get_or hs j 0) h ≡ false → Apart hs (j + 1) h
apart_more hs j h true below e = absurd (true≢false e)
apart_more hs j h false below e = below_more (λ (k : ℕ). get_or hs k 0 ≡ h → ⊥) j (below refl) (eqb-false _ _ e)

-- none of the numbers that were taken from the front
pub apart_taken : (hs : List ℕ) (n h : ℕ) → n ≤ length hs → Apart (take n hs) (length (take n hs)) h → Apart hs n h
apart_taken hs n h l a j m e = a j (omega (arith, length-take n hs)) (get_or-take n hs j 0 m ∙ e)
