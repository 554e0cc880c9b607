-- Laws: words copied one by one into an array of 64.
use Prim.Native.Nat.{ℕ, ◌+◌, ◌<◌, ◌≤◌}
use mathlib.Core.Path.{◌≡◌, sym, ap, ◌∙◌}
use mathlib.Core.List.{List}
use native.Mathlib.Omega.{arith}
use native.Mathlib.Nat.{lt_irrefl}
use borrow.Author.Count.{below_more}
use lib.ListN.{length, take, drop, set, get_or, length-take, get_or-append}
use lib.Seq.{get_or-take, get_or-drop, get_or-set_same, get_or-set_other, ext_get_or}
use Rattle.image_words.specs.Stands.{Stands}
use Rattle.type_from_pool.specs.Copies.{Copied}

pub copied_more : (ws : List ℕ) (at : ℕ) (words : List ℕ) (i w : ℕ) → i < length words → w ≡ get_or ws (at + i) 0 → Copied ws at words i → Copied ws at (set words i w) (i + 1)
copied_more ws at words i w h e below =
    below_more (λ (j : ℕ). get_or (set words i w) j 0 ≡ get_or ws (at + j) 0) i
    (λ j m. get_or-set_other words i j w 0 (λ q. lt_irrefl i (rw q at m)) ∙ below j m)
    (get_or-set_same words i w 0 h ∙ e)

-- words that stand there
pub stands_copied : (ws : List ℕ) (at n : ℕ) (run : List ℕ) → Stands ws run at n → Copied ws at run (length run)
stands_copied ws at n run s i h = sym (get_or-append run (drop n ws) 0 i h) ∙ ap (λ (xs : List ℕ). get_or xs i 0) (sym s.left) ∙ get_or-drop at ws i 0

-- two copies are the same
pub copied_run : (ws : List ℕ) (at : ℕ) (words run : List ℕ) → length run ≤ length words → Copied ws at words (length run) → Copied ws at run (length run) → take (length run) words ≡ run
copied_run ws at words run l c d =
    let m : length (take (length run) words) ≡ length run = length-take (length run) words ∙ omega arith in
    ext_get_or 0 (take (length run) words) run m (λ i h.
    let k : i < length run = omega arith in
    get_or-take (length run) words i 0 k ∙ c i k ∙ sym (d i k))
