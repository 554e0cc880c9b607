-- Laws: how long an answer's lines are, eleven bytes at most for a number and what stands behind it.
use Prim.Native.Nat.{ℕ, suc, ◌+◌, ◌*◌, ◌<◌, ◌≤◌, ◌^◌}
use mathlib.Core.Path.{ap}
use mathlib.Core.List.{List, [], ◌∷◌, ◌++◌}
use native.Mathlib.Omega.{arith}
use native.Mathlib.Decide.{dec_le}
use lib.ListN.{length, get_or, take, length-append, length-take, get_or-eq_default}
use lib.Seq.{get_or-take}
use Rattle.rules.specs.Words.{words}
use Rattle.rules.specs.Projone.{lines}
use Rattle.answers.specs.declared.answer.Answer.{Answer}
use Rattle.answers.specs.Answers.{answer_of}
use Rattle.lines.specs.Decimal.{decimal}
use Rattle.lines.specs.Lines.{line_text, lines_text, fields_of}
use Rattle.lines.proofs.Decimal.{decimal_short}
use Rattle.lines.proofs.Lines.{singles, refused_lines, accepted_lines}

-- every element is a byte, as in a list that a &[u8] holds; past the end it counts as 0
abbrev pub Bytes : List ℕ → Type 0
Bytes xs = (i : ℕ) → get_or xs i 0 < 256

taken : (n : ℕ) (xs : List ℕ) → Bytes xs → Bytes (take n xs)
taken n xs h i = elim (dec_le (suc i) n) [
  | yes l ↦ rw (get_or-take n xs i 0 l) (h i)
  | no l ↦ omega (arith, get_or-eq_default (take n xs) 0 {n = i} (omega (arith, length-take n xs)))
]

number_length : (n b : ℕ) → n < 2 ^ 32 → length (decimal n ++ (b ∷ [])) ≤ 11
number_length n b h = omega (arith, length-append (decimal n) (b ∷ []), decimal_short n h)

-- another number on a line
more_length : (n : ℕ) (text : List ℕ) → n < 2 ^ 32 → length (decimal n ++ (32 ∷ []) ++ text) ≤ 11 + length text
more_length n text h = omega (arith, length-append (decimal n ++ (32 ∷ [])) text, number_length n 32 h)

-- another line of one number
line_length : (n : ℕ) (ls : List (List ℕ)) → n < 2 ^ 32 → length (lines_text ((n ∷ []) ∷ ls)) ≤ 11 + length (lines_text ls)
unfolding lines_text line_text
line_length n ls h = omega (arith, length-append (decimal n ++ (10 ∷ [])) (lines_text ls), number_length n 10 h)

-- each word on a line, of four bytes
words_length : (xs : List ℕ) → Bytes xs → 4 * length (lines_text (singles (words xs))) ≤ 11 * length xs
unfolding words lines_text
words_length [] h = omega arith
words_length (a ∷ []) h = omega arith
words_length (a ∷ b ∷ []) h = omega arith
words_length (a ∷ b ∷ c ∷ []) h = omega arith
words_length (a ∷ b ∷ c ∷ d ∷ rest) h =
    omega (arith, line_length (a + 256 * b + 65536 * c + 16777216 * d) (singles (words rest)) (omega (arith, h 0, h 1, h 2, h 3)), words_length rest (λ i. h (suc (suc (suc (suc i))))))

-- an answer's fields are words, as code holds them
pub record WordFields (a : Answer) : Type 0 where
  pub number : a.number < 2 ^ 32
  pub function : a.function.0 < 2 ^ 32
  pub second : a.second.0 < 2 ^ 32
  pub size : a.length < 2 ^ 32
  pub visits : a.visits < 2 ^ 32

fields_length : (a : Answer) → WordFields a → length (line_text (fields_of a)) ≤ 55
unfolding line_text
fields_length a w =
    omega (
      arith,
      more_length a.number (line_text (a.function.0 ∷ a.second.0 ∷ a.length ∷ a.visits ∷ [])) w.number,
      more_length a.function.0 (line_text (a.second.0 ∷ a.length ∷ a.visits ∷ [])) w.function,
      more_length a.second.0 (line_text (a.length ∷ a.visits ∷ [])) w.second,
      more_length a.length (line_text (a.visits ∷ [])) w.size,
      number_length a.visits 10 w.visits,
    )

pub answer_length : (a : Answer) (output detail : List ℕ) → WordFields a → Bytes output → 4 * length (lines_text (lines (answer_of a output detail))) ≤ 220 + 11 * length output
answer_length a output detail w h = elim (dec_le 1 a.number) [
  | yes n ↦ omega (arith, ap length (refused_lines a output detail (λ e. omega arith)), fields_length a w)
  | no n ↦ omega (
    arith,
    ap length (accepted_lines a output detail (omega arith)),
    length-append (line_text (fields_of a)) (lines_text (singles (words (take a.length output)))),
    fields_length a w,
    words_length (take a.length output) (taken a.length output h),
    length-take a.length output,
  )
]
