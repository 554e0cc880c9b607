-- What code finds of an answer, part by part, is the verdict on it.
use Prim.Native.Nat.{ℕ, ◌+◌}
use mathlib.Core.Path.{◌≡◌}
use mathlib.Core.Bool.{Bool, ◌&&◌}
use mathlib.Core.List.{List}
use lib.Dec.{eqb}
use lib.ListN.{length}
use Rattle.words.specs.Words.{word_at}
use Rattle.answers.specs.declared.answer.Answer.{Answer}
use Rattle.answers.specs.Answers.{answer_of}
use Rattle.replay_cases.specs.declared.case.Case.{Case}
use Rattle.replay_cases.specs.declared.verdict.Compared.{Compared}
use Rattle.replay_cases.specs.Judged.{part, output_fill, detail_fill, stored_fields, as_stored, judged}

-- five words, each compared with a field
pub five_compared : (file : List ℕ) (at : ℕ) (a : Answer) {u v w x y : ℕ} → u ≡ word_at file at → v ≡ word_at file (at + 4) → w ≡ word_at file (at + 8) → x ≡ word_at file (at + 12) → y ≡ word_at file (at + 16)
    → (eqb u a.number && eqb v a.function.0 && eqb w a.second.0 && eqb x a.length && eqb y a.visits) ≡ stored_fields file at a
five_compared file at a eu ev ew ex ey = rw (eu, ev, ew, ex, ey)

abbrev made : Bool → Bool → Bool → Answer → ℕ → Compared
made f o d a n = record { fields = f; output = o; detail = d; answer = a; bytes = n }

-- the fields, and each buffer with the bytes stored for it and its own fill
pub judges : (file : List ℕ) (c : Case) (a : Answer) (output detail : List ℕ) {f o d : Bool} → f ≡ stored_fields file c.fields a
    → (written : List ℕ) (p : ℕ) → written ≡ part file c.written → p ≡ output_fill → o ≡ as_stored output written p
    → (told : List ℕ) (q : ℕ) → told ≡ part file c.told → q ≡ detail_fill → d ≡ as_stored detail told q
    → made f o d a (length output + length detail) ≡ judged file c (answer_of a output detail) (length output + length detail)
unfolding answer_of
judges file c a output detail ef written p ew ep eo told q et eq ed = rw (ef, eo, ed, ew, ep, et, eq)
