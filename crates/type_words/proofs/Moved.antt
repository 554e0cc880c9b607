-- A run that grew where it lies, and a part of a list that was written. Assumes nothing.
use Prim.Native.Nat.{ℕ, ◌+◌, ◌<◌, ◌≤◌}
use native.Mathlib.Omega.{arith}
use mathlib.Core.Path.{◌≡◌, refl, sym, ap, subst, ◌∙◌}
use mathlib.Core.Bool.{Bool, false}
use mathlib.Core.List.{List, ◌∷◌, ◌++◌}
use lib.ListN.{length, take, drop, get_or, get_or-append, length-append, length-drop}
use lib.Seq.{take_at, get_or-take, length-take-le}
use borrow.Rule.Slice.PartMut.{put_mid, post_of}
use Rattle.std.proofs.lemmas.Slice.{take-put_mid_below}
use Rattle.std.proofs.lemmas.List.{get_or-append-add}
use Rattle.std.specs.Prelude.{Option, Some, None}
use Rattle.type_words.specs.Runs.{Runs, Grows}
use Rattle.type_words.specs.Lent.{lent}
use Rattle.type_words.proofs.Runs.{counted, grown_run, grows_under}

-- one that grew, and one that could not, with a word before it
pub lent_run : {o : Option ℕ} {n : ℕ} (ws : List ℕ) {l : List ℕ} → o ≡ Some n → Grows l (lent o ws false) → take n ws ≡ l
lent_run ws {l} e g = let h = subst (λ (o : Option ℕ). Grows l (lent o ws false)) e g in grown_run h refl

pub lent_none : {o q : Option ℕ} (ws : List ℕ) {l : List ℕ} (p : Bool) (w : ℕ) → o ≡ None → q ≡ None → Grows l (lent o ws p) → Grows (w ∷ l) (lent q ws p)
lent_none ws {l} p w e f g =
    let h = subst (λ (o : Option ℕ). Grows l (lent o ws p)) e g in
    subst (λ (o : Option ℕ). Grows (w ∷ l) (lent o ws p)) (sym f) (grows_under _ w l refl h)

-- words written over the start of an array
pub filled : (run ys xs : List ℕ) {p : Bool} → ys ≡ run → length xs ≡ 64 → length run ≤ 64 → Runs (record { words = ys ++ drop (length run) xs; len = length run; poison = p }) run
filled run ys xs e w l =
    let n : length ys ≡ length run = ap length e in
    counted (ys ++ drop (length run) xs) run (length run) (omega (arith, length-append ys (drop (length run) xs), length-drop (length run) xs, n, w)) l (take_at ys (drop (length run) xs) (length run) n ∙ e)

-- a part of a list that was written: what stands before it stayed, and in it stands what was written
pub put_kept : (a k : ℕ) (xs ys : List ℕ) → a ≤ length xs → (j : ℕ) → j < a → get_or (put_mid a k xs ys) j 0 ≡ get_or xs j 0
put_kept a k xs ys h j l =
    let front = take-put_mid_below a k xs ys a (omega arith) h in
    sym (get_or-take a (put_mid a k xs ys) j 0 l) ∙ ap (λ (l : List ℕ). get_or l j 0) front ∙ get_or-take a xs j 0 l

pub put_copied : (a k : ℕ) (xs ys : List ℕ) → a ≤ length xs → (j : ℕ) → j < length ys → get_or (put_mid a k xs ys) (a + j) 0 ≡ get_or ys j 0
put_copied a k xs ys h j l =
    let n : length (take a xs) ≡ a = length-take-le a xs h in
    ap (λ (i : ℕ). get_or (put_mid a k xs ys) (i + j) 0) (sym n)
    ∙ get_or-append-add (take a xs) (ys ++ post_of a k xs) j 0 ∙ get_or-append ys (post_of a k xs) 0 j l
