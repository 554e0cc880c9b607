-- A row written. Assumes nothing.
use Prim.Native.Nat.{ℕ, ◌+◌, ◌≤◌}
use mathlib.Core.Path.{◌≡◌, sym, ap, ap₂, ◌∙◌}
use mathlib.Core.List.{List}
use native.Mathlib.Omega.{arith}
use lib.ListN.{length, get_or, set, drop, length-set, length-take, length-drop}
use borrow.Rule.Slice.PartMut.{put_mid, same_len_mid}
use Rattle.type_words.proofs.Moved.{put_kept, put_copied}
use lib.Seq.{get_or-set_same, get_or-set_other}
use Rattle.rules.specs.Syntax.{run}
use Rattle.type_words.specs.declared.HeldType.{HeldType}
use Rattle.type_words.specs.Runs.{held_run}
use Rattle.type_words.specs.Notes.{note}
use Rattle.type_words.proofs.Runs.{run_word}
use Rattle.subst_params.specs.Views.{Written}

-- a name and a note, and the words behind them copied
pub written : (before ys : List ℕ) (at x n k : ℕ) (h : HeldType) → at + 66 ≤ length before → k ≡ 64 → ys ≡ h.words → length h.words ≡ 64
    → n ≡ note (length (held_run h)) h.poison → Written before (put_mid (at + 2) k (set (set before at x) (at + 1) n) ys) at x h
written before ys at x n k h room all same wide e =
    let mid : List ℕ = set (set before at x) (at + 1) n in
    let z : length mid ≡ length before = length-set (set before at x) (at + 1) n ∙ length-set before at x in
    let m : length ys ≡ 64 = ap length same ∙ wide in
    let start : at + 2 ≤ length mid = omega (arith, z) in
    let size = same_len_mid (at + 2) k mid ys (omega (arith, m, all, room, z, length-take k (drop (at + 2) mid), length-drop (at + 2) mid)) ∙ z in
    let kept = put_kept (at + 2) k mid ys start in
    record {
      size = size;
      kept = λ j l. kept j (omega arith) ∙ get_or-set_other (set before at x) (at + 1) j n 0 (λ q. omega arith) ∙ get_or-set_other before at j x 0 (λ q. omega arith);
      row = λ names t p.
          let r : length (held_run h) ≡ length (run t) = ap length p.run in
          record {
            inside = omega (arith, size);
            name = kept at (omega arith) ∙ get_or-set_other (set before at x) (at + 1) at n 0 (λ q. omega arith) ∙ get_or-set_same before at x 0 (omega arith);
            noted = kept (at + 1) (omega arith) ∙ get_or-set_same (set before at x) (at + 1) n 0 (omega (arith, length-set before at x)) ∙ e ∙ ap₂ note r p.poison;
            words = λ j l. ap (λ (xs : List ℕ). get_or xs j 0) (sym p.run) ∙ run_word h j (omega (arith, r)) ∙ ap (λ (xs : List ℕ). get_or xs j 0) (sym same)
                ∙ sym (put_copied (at + 2) k mid ys start j (omega (arith, m, p.count, p.small)));
            stored = record { good = p.good; short = omega (arith, p.count, p.small) };
          };
    }
