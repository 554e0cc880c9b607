-- Laws of the words that an array of 64 holds below a count. Assumes nothing.
use Prim.Native.Nat.{ℕ, min, ◌+◌, ◌≤◌, ◌<◌}
use native.Mathlib.Omega.{arith}
use native.Mathlib.Numerals.{add-one}
use native.Mathlib.Decide.{dec_le}
use native.Mathlib.Nat.{add-zero, add_assoc}
use mathlib.Core.Path.{◌≡◌, sym, ap, ap₂, ◌∙◌, subst}
use mathlib.Core.Bool.{Bool, true, false, false≢true}
use mathlib.Core.List.{List, ◌∷◌, ◌++◌, append-nil, append_assoc}
use lib.ListN.{length, take, set, get_or, length-take, get_or-eq_default}
use lib.Seq.{get_or-take, take-suc, take-suc-set, take_all}
use borrow.Author.Tests.{le-leb, lt-leb, leb-false}
use Rattle.type_words.specs.declared.HeldType.{HeldType}
use Rattle.type_words.specs.Runs.{held_run, Runs, Grows, Grown}

-- a run has as many words as its count says, and at most 64
pub run_length : (h : HeldType) → length h.words ≡ 64 → length (held_run h) ≡ min h.len 64
unfolding held_run
run_length h e = rw (← e) (length-take h.len h.words)

-- a word of the run is the array's
pub run_word : (h : HeldType) (i : ℕ) → i < length (held_run h) → get_or (held_run h) i 0 ≡ get_or h.words i 0
unfolding held_run
run_word h i l = get_or-take h.len h.words i 0 (omega (arith, length-take h.len h.words))

-- past its end stands 0
pub run_end : (h : HeldType) (i : ℕ) → length (held_run h) ≤ i → get_or (held_run h) i 0 ≡ 0
run_end h i l = get_or-eq_default (held_run h) 0 l

-- as many words as the run has are the run
pub run_take : (h : HeldType) (n : ℕ) → length h.words ≡ 64 → n ≡ length (held_run h) → take n h.words ≡ held_run h
unfolding held_run
run_take h n l e = go (dec_le h.len 64)
  where
    m : length (held_run h) ≡ min h.len 64
    m = run_length h l

    go : Dec (h.len ≤ 64) → take n h.words ≡ take h.len h.words
    go (yes s) = ap (λ (k : ℕ). take k h.words) (let q : n ≡ h.len = omega (arith, m) in q)
    go (no s) = take_all n h.words (omega (arith, m)) ∙ sym (take_all h.len h.words (omega arith))

-- the first n words of an array, counted
pub counted : (ws l : List ℕ) (n : ℕ) {p : Bool} → length ws ≡ 64 → n ≤ 64 → take n ws ≡ l → Runs (record { words = ws; len = n; poison = p }) l
unfolding held_run
counted ws l n w s e = record { run = e; count = count; small = s }
  where
    count : n ≡ length l
    count = let q : length (take n ws) ≡ length l = ap length e in omega (arith, length-take n ws)

-- what a type says of poison has no part in its run
pub runs_as : {h : HeldType} {l : List ℕ} → Runs h l → (g : HeldType) → g.words ≡ h.words → g.len ≡ h.len → Runs g l
unfolding held_run
runs_as r g w n = record { run = ap₂ take n w ∙ r.run; count = n ∙ r.count; small = omega (arith, n, r.small) }

-- a type that grew, and one that could not
pub grown : (h : HeldType) (l : List ℕ) → Runs h l → Grows l (record { ok = true; ty = h })
grown h l r = record { ok = sym (le-leb (length l) 64 (omega (arith, r.count, r.small))); runs = λ _. r }

pub not_grown : (h : HeldType) (l : List ℕ) → 64 < length l → Grows l (record { ok = false; ty = h })
not_grown h l m = record { ok = sym (lt-leb (length l) 64 m); runs = λ e. absurd (false≢true e) }

-- a copy of m words behind n: at the start, and one word further
pub copied_none : (n : ℕ) (from words : List ℕ) → take (n + 0) words ≡ take n words ++ take 0 from
copied_none n from words = rw (add-zero, append-nil)

pub copied_more : (n i : ℕ) (from words₀ words : List ℕ) → n + i < length words → i < length from → take (n + i) words ≡ take n words₀ ++ take i from
    → take (n + (i + 1)) (set words (n + i) (get_or from i 0)) ≡ take n words₀ ++ take (i + 1) from
copied_more n i from words₀ words h k e =
    rw (← add_assoc n i 1, add-one (n + i), add-one i, take-suc-set words (n + i) (get_or from i 0) h, take-suc from i 0 k, e, append_assoc)

-- the same of an equal run
pub grows_at : {l m : List ℕ} {r : Grown} → Grows l r → l ≡ m → Grows m r
grows_at {r = r} g e = subst (λ (x : List ℕ). Grows x r) e g

pub grows_behind : {w : ℕ} {l m : List ℕ} {r : Grown} → Grows (w ∷ l) r → l ≡ m → Grows (w ∷ m) r
grows_behind {w} {r = r} g e = subst (λ (x : List ℕ). Grows (w ∷ x) r) e g

-- what grew is the run below its count
pub grown_run : {l : List ℕ} {r : Grown} → Grows l r → r.ok ≡ true → take r.ty.len r.ty.words ≡ l
unfolding held_run
grown_run g e = (g.runs e).run

-- what is too long stays so with a word before it
pub grows_under : (r : Grown) (w : ℕ) (l : List ℕ) → r.ok ≡ false → Grows l r → Grows (w ∷ l) r
grows_under r w l e g =
    let o : 64 < length l = leb-false (length l) 64 (sym g.ok ∙ e) in
    record { ok = e ∙ sym (lt-leb (length (w ∷ l)) 64 (omega arith)); runs = λ t. absurd (false≢true (sym e ∙ t)) }
