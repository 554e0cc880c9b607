-- Two passes of one call. Assumes nothing.
use Prim.Native.Nat.{ℕ, ◌<◌, ◌^◌}
use mathlib.Core.Path.{◌≡◌, refl, sym, ap, subst, ◌∙◌}
use mathlib.Core.List.{List, [], ◌∷◌, ◌++◌}
use native.Mathlib.Omega.{arith}
use lib.ListN.{length}
use Rattle.rules.specs.Refusal.{Result, ok}
use Rattle.answers.specs.declared.answer.Answer.{Answer}
use Rattle.answers.specs.declared.answer.Outcome.{Outcome}
use Rattle.answers.specs.Answers.{AcceptsAll, Agrees, Comes}
use Rattle.answers.proofs.Calls.{Accepted, is_accepted}

-- none of a list lies before the rest of it
pub front : (xs ys : List ℕ) → length xs ≡ 0 → xs ++ ys ≡ ys
front [] ys e = refl
front (x ∷ xs) ys e = absurd (omega arith)

-- a second pass of an accepted call is accepted, and has its length
pub again : {call : Result (ℕ × List ℕ)} {old new older newer : List ℕ} {r q : Outcome} → Accepted call old new r → Comes call older newer q → Accepted call older newer q
again {older = older} {newer} {q = q} a c = is_accepted c (subst (λ (k : Result (ℕ × List ℕ)). Agrees k older newer q) a.is c.is).0

words_same : {p q : ℕ × List ℕ} → ok p ≡ ok q → p.1 ≡ q.1
words_same {p} {q} e = let m : p ≡ q = cc in ap (λ (x : ℕ × List ℕ). x.1) m

pub one_length : {call : Result (ℕ × List ℕ)} {old new older newer : List ℕ} {r q : Outcome} → Accepted call old new r → Accepted call older newer q → q.length ≡ r.length
one_length a b = omega (arith, a.writes.place, b.writes.place, ap length (words_same (sym a.is ∙ b.is)))

-- an accepted length fits a word
pub length_fits : {call : Result (ℕ × List ℕ)} {old new : List ℕ} {r : Outcome} (a : Accepted call old new r) → length a.words < 1000000000 → r.length < 2 ^ 32
length_fits a few = omega (arith, a.writes.place)

pub visits_same : (a : Answer) (n : ℕ) {v w : ℕ} → v ≡ w → AcceptsAll a n v → AcceptsAll a n w
visits_same a n e f = subst (AcceptsAll a n) e f
