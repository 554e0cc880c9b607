-- What is told of a case, and of the cases one by one: what is left to be told decides.
use Prim.Native.Nat.{ℕ, suc, ◌+◌, ◌-◌, ◌<◌, ◌≤◌, min}
use mathlib.Core.Path.{◌≡◌, ap, subst, ◌∙◌}
use mathlib.Core.Bool.{Bool, true, false}
use mathlib.Core.List.{List, [], ◌++◌}
use native.Mathlib.Omega.{arith}
use lib.ListN.{length, take, drop}
use borrow.Author.Tests.{eq-eqb, ne_eqb}
use Rattle.std.specs.Prelude.{Option, Some, None}
use Rattle.words.specs.Words.{word_at}
use Rattle.lines.specs.Text.{Tells}
use Rattle.lines.proofs.Tells.{tells_none, tells_then, tells_same}
use Rattle.replay_cases.specs.declared.case.Case.{Case}
use Rattle.replay_cases.specs.declared.verdict.Compared.{Compared}
use Rattle.replay_cases.specs.Cases.{case_at}
use Rattle.replay_cases.specs.Labels.{line, line_end, next_line}
use Rattle.replay_told.specs.Told.{case_text}
use Rattle.replay_verdict.specs.Replayed.{compared}
use Rattle.replay_verdict.specs.ReplayText.{told_of, told_from, cases_text}

-- the rest that is told from a place on makes the whole
pub record Left (whole rest : List ℕ) (start place : ℕ) (old mid : List ℕ) : Type 0 where
  pub so : (new : List ℕ) (r : ℕ) → Tells rest place r mid new → Tells whole start r old new

-- some of the rest is told; none is left; the same rest
left_more : {whole a rest : List ℕ} {start place next : ℕ} {old mid new : List ℕ} → place ≤ length mid → Left whole (a ++ rest) start place old mid → Tells a place next mid new → Left whole rest start next old new
left_more h l t = record { so = λ new r u. l.so new r (tells_then h t u) }

left_none : {whole : List ℕ} {start place : ℕ} {old mid : List ℕ} → place ≤ length mid → Left whole [] start place old mid → Tells whole start place old mid
left_none h l = l.so _ _ (tells_none h)

left_same : {whole rest others : List ℕ} {start place : ℕ} {old mid : List ℕ} → rest ≡ others → Left whole rest start place old mid → Left whole others start place old mid
left_same {whole} {start = start} {place} {old} {mid} e l = subst (λ (t : List ℕ). Left whole t start place old mid) e l

-- a case of the call, and one of the other
module _ (file label : List ℕ) (c : Case) (call : ℕ) where
  pub told_of_the_call : {at next : ℕ} {old new : List ℕ} {r : Compared} → c.call ≡ call → r ≡ compared file c → Tells (case_text label r) at next old new → Tells (told_of file c call label) at next old new
  told_of_the_call e er t = rw (eq-eqb c.call call e) (tells_same (ap (λ (k : Compared). case_text label k) er) t)

  pub told_of_the_other : {at : ℕ} {old : List ℕ} → (c.call ≡ call → ⊥) → at ≤ length old → Tells (told_of file c call label) at at old old
  told_of_the_other e h = rw (ne_eqb c.call call e) (tells_none h)

-- before the first case nothing is told
pub told_starts : (file names : List ℕ) (call count at : ℕ) {start : ℕ} {old : List ℕ} → count ≡ word_at file 0 → at ≡ min 4 (length file)
    → Left (cases_text file names call) (told_from (count - 0) file names call at 0) start start old old
told_starts file names call count at ec ea = let n : count - 0 ≡ word_at file 0 = omega arith in rw (n, ea) (record { so = λ new r t. t })

-- the first of the cases that are left; none there; none left
module _ (file names : List ℕ) (call count i at name : ℕ) where
  opened : i < count → (o : Option Case) → o ≡ case_at file at
      → told_from (count - i) file names call at name ≡ (elim o as (λ _. List ℕ) [ None ↦ [] | Some c ↦ told_of file c call (line names name) ++ told_from (count - (i + 1)) file names call c.next (next_line names (line_end names name)) ])
  unfolding told_from
  opened h o e = let n : count - i ≡ suc (count - (i + 1)) = omega arith in rw (n, e)

  first_told : (c : Case) (end after : ℕ) → i < count → Some c ≡ case_at file at → end ≡ line_end names name → after ≡ next_line names end
      → told_from (count - i) file names call at name ≡ told_of file c call (take (end - name) (drop name names)) ++ told_from (count - (i + 1)) file names call c.next after
  first_told c end after h e ee ea = opened h (Some c) e ∙ rw (ea, ee)

  all_told : count ≤ i → told_from (count - i) file names call at name ≡ []
  unfolding told_from
  all_told h = let n : count - i ≡ 0 = omega arith in rw n

  -- a case more is told
  pub told_more : (c : Case) (end after : ℕ) {whole : List ℕ} {start place next : ℕ} {old mid new : List ℕ} → i < count → Some c ≡ case_at file at → end ≡ line_end names name → after ≡ next_line names end
      → place ≤ length mid → Left whole (told_from (count - i) file names call at name) start place old mid → Tells (told_of file c call (take (end - name) (drop name names))) place next mid new
      → Left whole (told_from (count - (i + 1)) file names call c.next after) start next old new
  told_more c end after h e ee ea p l t = left_more p (left_same (first_told c end after h e ee ea) l) t

  -- and none is left
  pub told_stops : {whole : List ℕ} {start place : ℕ} {old mid : List ℕ} → i < count → None ≡ case_at file at
      → place ≤ length mid → Left whole (told_from (count - i) file names call at name) start place old mid → Tells whole start place old mid
  told_stops h e p l = left_none p (left_same (opened h None e) l)

  pub told_ends : {whole : List ℕ} {start place : ℕ} {old mid : List ℕ} → count ≤ i
      → place ≤ length mid → Left whole (told_from (count - i) file names call at name) start place old mid → Tells whole start place old mid
  told_ends h p l = left_none p (left_same (all_told h) l)
