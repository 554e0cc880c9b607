-- The verdict on a case that is asked, and what a tally grows by.
use Prim.Native.Nat.{ℕ, zero, suc, ◌+◌, ◌-◌, ◌*◌, ◌<◌, ◌≤◌, min}
use mathlib.Core.Path.{◌≡◌, refl, ap, ◌∙◌}
use mathlib.Core.Bool.{Bool, true, false}
use mathlib.Core.List.{List, ◌∷◌}
use native.Mathlib.Omega.{arith}
use lib.Dec.{eqb}
use lib.ListN.{length, take, replicate, length-replicate}
use borrow.Author.Tests.{eq-eqb, ne_eqb}
use Rattle.std.specs.Prelude.{Option, Some, None, Result, Err}
use Rattle.rules.specs.Answer as rules
use Rattle.words.specs.Words.{word_at}
use Rattle.call_answer.specs.declared.Call.{Call}
use Rattle.call_answer.specs.Calls.{answer_for}
use Rattle.replay_cases.specs.declared.case.Case.{Case}
use Rattle.replay_cases.specs.declared.verdict.Compared.{Compared}
use Rattle.replay_cases.specs.Cases.{Askable, case_at}
use Rattle.replay_cases.specs.Judged.{part, output_fill, detail_fill, judged, agrees}
use Rattle.replay_verdict.specs.declared.tally.Tally.{Tally}
use Rattle.replay_verdict.specs.Replayed.{which_call, compared, one_where_not, tallied, either, counted_of, none_yet, came, total_from, total_of}

-- the answer on the case's image, and its verdict; the buffers stay as long as they were lent
pub asked_verdict : (file : List ℕ) (c : Case) (output detail image : List ℕ) {call : Call} {a : rules.Answer} {r : Compared} {n m : ℕ} → image ≡ part file c.image → call ≡ which_call c.call
    → a ≡ answer_for call image c.row.0 output detail → n ≡ length output → m ≡ length detail → r ≡ judged file c a (n + m)
    → r ≡ judged file c (answer_for (which_call c.call) (part file c.image) c.row.0 output detail) (length output + length detail)
asked_verdict file c output detail image ei ec ea en em er = er ∙ rw (ea, ec, ei, en, em)

-- the first bytes of an array that is filled with one
pub take_filled : (n m x : ℕ) → n ≤ m → take n (replicate m x) ≡ replicate n x
take_filled zero m x h = refl
take_filled (suc n) zero x h = absurd (omega arith)
take_filled (suc n) (suc m) x h = ap {B = List ℕ} (λ l. x ∷ l) (take_filled n m x (omega arith))

pub filled_length : (n m x : ℕ) → n ≤ m → length (take n (replicate m x)) ≡ n
filled_length n m x h = ap length (take_filled n m x h) ∙ length-replicate n x

-- buffers that hold nothing but their fill
pub lent_filled : (file : List ℕ) (c : Case) (output detail : List ℕ) {r : Compared} → output ≡ replicate c.output output_fill → detail ≡ replicate c.detail detail_fill
    → r ≡ judged file c (answer_for (which_call c.call) (part file c.image) c.row.0 output detail) (length output + length detail) → r ≡ compared file c
lent_filled file c output detail eo ed e = e ∙ rw (eo, ed, length-replicate c.output output_fill, length-replicate c.detail detail_fill)

-- a case that is counted, and one that is not
pub of_the_call : (file : List ℕ) (c : Case) (call : ℕ) (t : Tally) {r : Compared} {u : Tally} → c.call ≡ call → r ≡ compared file c → u ≡ tallied t r → u ≡ counted_of file c call t
of_the_call file c call t e er eu = eu ∙ rw (er, eq-eqb c.call call e)

pub of_the_other : (file : List ℕ) (c : Case) (call : ℕ) (t : Tally) → (c.call ≡ call → ⊥) → t ≡ counted_of file c call t
of_the_other file c call t e = rw (ne_eqb c.call call e)

-- by a case, at most so many bytes, and at most one that differs
abbrev pub Grows : Tally → Tally → Type 0
Grows t u = (u.cases ≤ t.cases + 1) × (u.bytes ≤ t.bytes + 66560) × (u.differ ≤ t.differ + 1)

pub grows : (file : List ℕ) (c : Case) (call : ℕ) (t u : Tally) → Askable file c → u ≡ counted_of file c call t → Grows t u
grows file c call t u a e = rw e (go (eqb c.call call) (agrees (compared file c))) where
  go : (k b : Bool) → Grows t (either k (record { cases = t.cases + 1; bytes = t.bytes + (c.output + c.detail); differ = t.differ + one_where_not b }) t)
  go true true = (omega arith, omega arith, omega arith)
  go true false = (omega arith, omega arith, omega arith)
  go false b = (omega arith, omega arith, omega arith)

-- before the first case
pub starts : (file : List ℕ) (call count at : ℕ) (t : Tally) → count ≡ word_at file 0 → t ≡ none_yet → at ≡ min 4 (length file)
    → (t.cases ≤ 0) × (t.bytes ≤ 66560 * 0) × (t.differ ≤ 0) × (total_from (count - 0) file call 0 at t ≡ total_of file call)
starts file call count at t ec et ea = let n : count - 0 ≡ word_at file 0 = omega arith in rw (n, et, ea) (omega arith, omega arith, omega arith, refl)

-- what is left of a file's cases decides: a case, none, and the end
module _ (file : List ℕ) (call count i at : ℕ) (t : Tally) {all : Result Tally ℕ} (left : total_from (count - i) file call i at t ≡ all) where
  turn : i < count → (o : Option Case) → o ≡ case_at file at
      → (elim o as (λ _. Result Tally ℕ) [ None ↦ Err i | Some c ↦ total_from (count - (i + 1)) file call (i + 1) c.next (counted_of file c call t) ]) ≡ all
  unfolding total_from
  turn h o e = let n : suc (count - (i + 1)) ≡ count - i = omega arith in rw e (ap (λ (k : ℕ). total_from k file call i at t) n ∙ left)

  pub goes_on : (c : Case) (u : Tally) → i < count → Some c ≡ case_at file at → u ≡ counted_of file c call t → total_from (count - (i + 1)) file call (i + 1) c.next u ≡ all
  goes_on c u h e eu = rw eu (turn h (Some c) e)

  pub stops : i < count → None ≡ case_at file at → Err i ≡ all
  stops h e = turn h None e

  pub ends : count ≤ i → i ≤ count → came (eqb at (length file)) t count ≡ all
  unfolding total_from
  ends h l = let n : 0 ≡ count - i = omega arith in let m : count ≡ i = omega arith in rw m (ap (λ (k : ℕ). total_from k file call i at t) n ∙ left)
