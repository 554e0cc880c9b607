-- Where a word of a row stands.
use Prim.Native.Nat.{ℕ, suc, ◌+◌, ◌-◌, ◌*◌, ◌/◌, ◌<◌, ◌≤◌, min}
use mathlib.Core.Path.{◌≡◌, refl, sym, ap, ◌∙◌}
use mathlib.Core.Bool.{Bool, true, false, ◌&&◌, cond}
use mathlib.Core.List.{List, []}
use native.Mathlib.Decide.{dec_lt}
use native.Mathlib.Omega.{arith}
use native.Mathlib.Nat.{mul-le-mul_left, mul-suc}
use borrow.Author.Tests.{lt-ltb, le-ltb}
use lib.Dec.{ltb}
use lib.ListN.{length, take, drop, get_or, length-take, length-drop}
use lib.Seq.{get_or-take, get_or-drop}
use Rattle.words.specs.Words.{word_at}
use Rattle.image_words.specs.Verdict.{section_words}
use Rattle.image_words.proofs.Sections.{section_at, section_past}
use Rattle.image_layout.specs.declared.Table.{Table}
use Rattle.image_layout.specs.Rows.{row_word, IsRow}

pub row_inside : (w i r k : ℕ) → i < r → k < w → w * i + k < w * r
row_inside w i r k h g = let m : w * suc i ≤ w * r = mul-le-mul_left w h in omega (arith, mul-suc w i)

-- a word of some bytes of a list is a word of the list
pub part_word : (xs : List ℕ) (start n at : ℕ) → at + 4 ≤ n → word_at (take n (drop start xs)) at ≡ word_at xs (start + at)
part_word xs start n at h =
    let byte : (k : ℕ) → k < 4 → get_or (take n (drop start xs)) (at + k) 0 ≡ get_or xs (start + at + k) 0 =
    λ k l. let i : at + k < n = omega arith in rw (get_or-take, get_or-drop) (ap (λ (j : ℕ). get_or xs j 0) (omega arith)) in
    let first : get_or (take n (drop start xs)) at 0 ≡ get_or xs (start + at) 0 = let i : at < n = omega arith in rw (get_or-take, get_or-drop) refl in
    omega (arith, first, byte 1 (omega arith), byte 2 (omega arith), byte 3 (omega arith))

-- a row's part of the section: `start` is the row's place, and `len` how many of its `w` words stand there
module _ (section : List ℕ) (start w len n : ℕ) (at : start ≤ length section / 4) (few : len ≡ min w (length section / 4 - start)) (bytes : n ≡ 4 * len) where
  long : length (take n (drop (4 * start) section)) ≡ 4 * len
  long = simp (length-take, length-drop) (omega arith)

  off_row : (k : ℕ) → w ≤ k → 0 ≡ get_or (section_words (take n (drop (4 * start) section))) k 0
  off_row k h = section_past (take n (drop (4 * start) section)) k (omega (arith, long))

  in_row : (k : ℕ) → k < w → get_or (section_words section) (start + k) 0 ≡ get_or (section_words (take n (drop (4 * start) section))) k 0
  in_row k h = by (dec_lt (start + k) (length section / 4))
    where
      by : Dec (start + k < length section / 4) → get_or (section_words section) (start + k) 0 ≡ get_or (section_words (take n (drop (4 * start) section))) k 0
      by (yes l) =
          let e : 4 * (start + k) ≡ 4 * start + 4 * k = omega arith in
          sym (section_at section (start + k) l) ∙ ap (λ (j : ℕ). word_at section j) e ∙ sym (part_word section (4 * start) n (4 * k) (omega arith))
          ∙ section_at (take n (drop (4 * start) section)) k (omega (arith, long))
      by (no l) = sym (section_past section (start + k) (omega arith)) ∙ section_past (take n (drop (4 * start) section)) k (omega (arith, long))

pub row_is : (t : Table) (i : ℕ) → i < t.rows → (start len n : ℕ) → start ≡ t.width * i → start ≤ length t.words.now / 4 → len ≡ min t.width (length t.words.now / 4 - start) → n ≡ 4 * len
    → IsRow t i (take n (drop (4 * start) t.words.now))
unfolding row_word
row_is t i h start len n place at few bytes = record { words = λ k. by k (dec_lt k t.width) }
  where
    by : (k : ℕ) → Dec (k < t.width)
        → cond (ltb i t.rows && ltb k t.width) (get_or (section_words t.words.now) (t.width * i + k) 0) 0 ≡ get_or (section_words (take n (drop (4 * start) t.words.now))) k 0
    by k (yes l) = rw (lt-ltb _ _ h, lt-ltb _ _ l, ← place) (in_row t.words.now start t.width len n at few bytes k l)
    by k (no l) = let g : t.width ≤ k = omega arith in rw (lt-ltb _ _ h, le-ltb _ _ g) (off_row t.words.now start t.width len n at few bytes k g)

-- a row behind the section's end
pub row_behind : (t : Table) (i : ℕ) → length t.words.now / 4 ≤ t.width * i → IsRow t i []
unfolding row_word
row_behind t i h = record { words = λ k. by k (ltb i t.rows && ltb k t.width) }
  where
    by : (k : ℕ) (b : Bool) → cond b (get_or (section_words t.words.now) (t.width * i + k) 0) 0 ≡ get_or (section_words []) k 0
    by k true = sym (section_past t.words.now (t.width * i + k) (omega arith)) ∙ section_past [] k (omega arith)
    by k false = section_past [] k (omega arith)

-- past the rows
pub no_row : (t : Table) (i : ℕ) → t.rows ≤ i → IsRow t i []
unfolding row_word
no_row t i h = record { words = λ k. rw (le-ltb _ _ h) (section_past [] k (omega arith)) }
