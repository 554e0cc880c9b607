-- An answer by its fields. Assumes nothing.
use Prim.Native.Nat.{ℕ, ◌*◌}
use mathlib.Core.Path.{◌≡◌, ap, ◌∙◌}
use mathlib.Core.List.{List}
use lib.ListN.{length}
use Rattle.rules.specs.Words.{NONE, bytes_of, over_start}
use Rattle.rules.specs.Answer as rules
use Rattle.rules.specs.Answer.{accepted, too_short}
use Rattle.answers.specs.declared.answer.Answer.{Answer}
use Rattle.answers.specs.Answers.{answer_of, Unnamed, TooShort, AcceptsAll}

abbrev pub fields : ℕ → ℕ → ℕ → ℕ → ℕ → List ℕ → List ℕ → rules.Answer
fields number function second size visits output detail =
    record { number = number; function = function; second = second; size = size; visits = visits; output = output; detail = detail }

-- with no names, by what it says
pub unnamed : {a : Answer} {number n visits : ℕ} → Unnamed a number n visits → (output detail : List ℕ) → answer_of a output detail ≡ fields number NONE NONE n visits output detail
unfolding answer_of
unnamed u output detail = rw (u.number_is, u.function_is, u.second_is, u.length_is, u.visits_is)

-- of so many words
pub short_of : {a : Answer} {n : ℕ} → TooShort a n → (words output detail : List ℕ) → n ≡ 4 * length words → answer_of a output detail ≡ too_short words output detail
unfolding too_short
short_of u words output detail e = unnamed u output detail ∙ ap (λ (k : ℕ). fields 24 NONE NONE k 0 output detail) e

pub accepts_of : {a : Answer} {n visits : ℕ} → AcceptsAll a n visits → (words output detail : List ℕ) → n ≡ 4 * length words → answer_of a (over_start (bytes_of words) output) detail ≡ accepted visits words output detail
unfolding accepted
accepts_of {visits = visits} u words output detail e = unnamed u (over_start (bytes_of words) output) detail ∙ ap (λ (k : ℕ). fields 0 NONE NONE k visits (over_start (bytes_of words) output) detail) e
