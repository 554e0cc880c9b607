-- Laws: a row written behind the others.
use Prim.Native.Nat.{ℕ, ◌+◌, ◌*◌, ◌<◌, ◌≤◌}
use native.Mathlib.Omega.{arith}
use mathlib.Core.Path.{◌≡◌, sym, ap, ap₂, subst, ◌∙◌}
use mathlib.Core.List.{List, [], ◌∷◌, ◌++◌}
use lib.ListN.{length, get_or, set, drop, length-set, length-take, length-drop}
use borrow.Rule.Slice.PartMut.{put_mid, same_len_mid}
use Rattle.type_words.proofs.Moved.{put_kept, put_copied}
use lib.Seq.{get_or-set_same, get_or-set_other}
use Rattle.rules.specs.Syntax.{ResolvedType, run, Param}
use Rattle.type_words.specs.declared.HeldType.{HeldType}
use Rattle.type_words.specs.Runs.{held_run}
use Rattle.type_words.specs.Notes.{note}
use Rattle.type_words.specs.Holds.{Holds}
use Rattle.type_words.proofs.Runs.{run_word}
use Rattle.locals.specs.Rows.{Row, Rows}
use Rattle.locals.specs.Adds.{Filled}

-- a row that was copied
pub filled : (before ys : List ℕ) (i k : ℕ) (h : HeldType) → length h.words ≡ 64 → k ≡ 64 → 64 * i + 64 ≤ length before → ys ≡ h.words → Filled before (put_mid (64 * i) k before ys) i h
filled before ys i k h wide all room e =
    let start : 64 * i ≤ length before = omega arith in
    let n : length ys ≡ 64 = ap length e ∙ wide in
    record {
      size = same_len_mid (64 * i) k before ys (omega (arith, n, all, room, length-take k (drop (64 * i) before), length-drop (64 * i) before));
      room = room;
      kept = put_kept (64 * i) k before ys start;
      copied = λ j m s. run_word h j m ∙ ap (λ (l : List ℕ). get_or l j 0) (sym e) ∙ sym (put_copied (64 * i) k before ys start j (omega (arith, n)));
    }

module _ (rows : ℕ) (names words words' lens : List ℕ) (i x n : ℕ) (h : HeldType) (f : Filled words words' i h) where
  row_kept : (k : ℕ) (p : Param ResolvedType) → k < i → Row rows names words lens k p → Row rows (set names i x) words' (set lens i n) k p
  row_kept k p l r = record {
    few = r.few;
    name = get_or-set_other names i k x 0 (λ q. omega arith) ∙ r.name;
    named = omega (arith, length-set names i x, r.named);
    counted = omega (arith, length-set lens i n, r.counted);
    noted = get_or-set_other lens i k n 0 (λ q. omega arith) ∙ r.noted;
    room = omega (arith, f.size, r.room);
    words_at = λ j m. r.words_at j m ∙ sym (f.kept (64 * k + j) (omega (arith, r.stored.short)));
    stored = r.stored;
  }

  row_new : (t : ResolvedType) → Holds rows h t → i < 64 → i < length names → i < length lens → n ≡ note (length (held_run h)) h.poison
      → Row rows (set names i x) words' (set lens i n) i (record { name = x; ty = t })
  row_new t p few a b e =
      let k : length (held_run h) ≡ length (run t) = ap length p.run in
      record {
        few = few;
        name = get_or-set_same names i x 0 a;
        named = omega (arith, length-set names i x);
        counted = omega (arith, length-set lens i n);
        noted = get_or-set_same lens i n 0 b ∙ e ∙ ap₂ note k p.poison;
        room = omega (arith, f.size, f.room);
        words_at = λ j m. ap (λ (xs : List ℕ). get_or xs j 0) (sym p.run) ∙ f.copied j (omega (arith, k)) (omega (arith, p.count, p.small));
        stored = record { good = p.good; short = omega (arith, p.count, p.small) };
      }

  before_end : (k : ℕ) (ps : List (Param ResolvedType)) → Rows rows names words lens i k ps → k ≤ i
  before_end k [] w = omega arith
  before_end k (p ∷ ps) w = let l = before_end (k + 1) ps w.1 in omega arith

  -- the others, and the new one behind them
  pub rows_more : (p : Param ResolvedType) → Row rows (set names i x) words' (set lens i n) i p → (k : ℕ) (ps : List (Param ResolvedType))
      → Rows rows names words lens i k ps → Rows rows (set names i x) words' (set lens i n) (i + 1) k (ps ++ p ∷ [])
  rows_more p r k [] e = (subst (λ (j : ℕ). Row rows (set names i x) words' (set lens i n) j p) (sym e) r, omega arith)
  rows_more p r k (q ∷ ps) w = (row_kept k q (let l = before_end (k + 1) ps w.1 in omega arith) w.0, rows_more p r (k + 1) ps w.1)

  pub added : (ps : List (Param ResolvedType)) (t : ResolvedType) → i < 64 → i < length names → i < length lens → n ≡ note (length (held_run h)) h.poison
      → Rows rows names words lens i 0 ps → Holds rows h t → Rows rows (set names i x) words' (set lens i n) (i + 1) 0 (ps ++ record { name = x; ty = t } ∷ [])
  added ps t few a b e w p = rows_more (record { name = x; ty = t }) (row_new t p few a b e) 0 ps w
