-- What a note tells is what was noted. Assumes nothing.
use Prim.Native.Nat.{ℕ, ◌+◌, ◌%◌, ◌≤◌, ◌<◌}
use mathlib.Core.Path.{◌≡◌, ap, sym, subst, ◌∙◌}
use mathlib.Core.List.{List}
use mathlib.Core.Bool.{Bool, true, false}
use native.Mathlib.Omega.{arith}
use borrow.Author.Tests.{le-leb, lt-leb}
use lib.Dec.{leb}
use lib.ListN.{length, take, drop, get_or, length-take, length-drop}
use lib.Seq.{get_or-take, get_or-drop, ext_get_or}
use Rattle.rules.specs.Syntax.{ResolvedType, run}
use Rattle.rules.specs.Types.{contains_poison}
use Rattle.rules.specs.Good.{Stored}
use Rattle.type_words.specs.declared.HeldType.{HeldType}
use Rattle.type_words.specs.Runs.{Runs, Made}
use Rattle.type_words.specs.Holds.{Holds}
use Rattle.type_words.specs.Rests.{Rests}
use Rattle.type_words.proofs.Trees.{holds}
use Rattle.type_words.specs.Notes.{note}

-- by the flag
pub note_with : (n : ℕ) {p : Bool} {r : ℕ} → p ≡ true → r ≡ n + 128 → r ≡ note n p
note_with n e q = q ∙ ap (note n) (sym e)

pub note_without : (n : ℕ) {p : Bool} {r : ℕ} → p ≡ false → r ≡ n → r ≡ note n p
note_without n e q = q ∙ ap (note n) (sym e)

-- what is read back of a note: a count of at most 64, and the flag
module _ (k : ℕ) (p : Bool) {w : ℕ} (small : k ≤ 64) (e : w ≡ note k p) where
  pub count_noted : {n : ℕ} → n ≡ w % 128 → n ≡ k
  count_noted q = q ∙ ap (λ (x : ℕ). x % 128) e ∙ go p
    where
      go : (p : Bool) → note k p % 128 ≡ k
      go true = omega arith
      go false = omega arith

  pub poison_noted : {b : Bool} → b ≡ leb 128 w → b ≡ p
  poison_noted q = q ∙ ap (leb 128) e ∙ go p
    where
      go : (p : Bool) → leb 128 (note k p) ≡ p
      go true = le-leb 128 (k + 128) (omega arith)
      go false = lt-leb 128 k (omega arith)

-- what rests is read back, whole
module _ (names : ℕ) (ws : List ℕ) {w : ℕ} (t : ResolvedType) (r : Rests names ws w t) {n : ℕ} (q : n ≡ w % 128) where
  pub count_rests : n ≡ length (run t)
  count_rests = count_noted (length (run t)) (contains_poison t) r.stored.short r.noted q

  pub rested : {h : HeldType} {p : Bool} → p ≡ leb 128 w → Made h (take n ws) p → Holds names h t
  rested {h} {p} e m =
      let all : take n ws ≡ run t =
      ext_get_or 0 (take n ws) (run t) (omega (arith, length-take n ws, count_rests, r.room))
      (λ j l. get_or-take n ws j 0 (omega (arith, length-take n ws, count_rests)) ∙ sym (r.same j (omega (arith, length-take n ws, count_rests)))) in
      holds names (subst (Runs h) all m.runs) (m.poison ∙ poison_noted (length (run t)) (contains_poison t) r.stored.short r.noted e) r.stored.good

-- of a table, from a place on
pub rests_at : (names : ℕ) (table : List ℕ) (at k : ℕ) {w : ℕ} (t : ResolvedType) → k ≡ 64 → at + 64 ≤ length table → w ≡ note (length (run t)) (contains_poison t)
    → ((j : ℕ) → j < length (run t) → get_or (run t) j 0 ≡ get_or table (at + j) 0) → Stored names t → Rests names (take k (drop at table)) w t
rests_at names table at k t e l noted same stored = record {
  noted = noted;
  room = omega (arith, length-take k (drop at table), length-drop at table, stored.short);
  same = λ j h. same j h ∙ sym (get_or-take k (drop at table) j 0 (omega (arith, stored.short)) ∙ get_or-drop at table j 0);
  stored = stored;
}
