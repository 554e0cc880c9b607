-- What comes of a part of a projection: its refusal, or its words.
use Rattle.std.specs.Prelude.{ℕ, ◌≡◌, true, false, List}
use Rattle.rules.specs.Refusal.{Result, ok, err, ◌>>=◌}
use Rattle.answers.specs.declared.answer.Outcome.{Outcome}
use Rattle.answers.specs.Refusals.{refusal_of}
use Rattle.write_words.specs.Written.{Written}

abbrev pub PassesAgrees : Result (Unit {0}) → Outcome → Type 0
PassesAgrees (err e) r = (r.ok ≡ false) × (refusal_of r.refusal ≡ e)
PassesAgrees (ok _) r = r.ok ≡ true

-- r says what came of a test: its refusal, or that it was passed
pub record Passes (test : Result (Unit {0})) (r : Outcome) : Type 0 where
  pub is : PassesAgrees test r

-- a part as a test: whether it is refused
abbrev pub test_of : {A : Type 0} → Result A → Result (Unit {0})
test_of part = part >>= λ _. ok tt

-- of two tests, in this order: the refusal of the first, else what the second came to
pub record FirstRefusal (a b r : Outcome) : Type 0 where
  pub refuses : a.ok ≡ false → r ≡ a
  pub passes : a.ok ≡ true → r ≡ b

abbrev pub WordsAgree : Result (List ℕ) → ℕ → ℕ → List ℕ → List ℕ → Outcome → Type 0
WordsAgree (err e) limit to old new r = (r.ok ≡ false) × (refusal_of r.refusal ≡ e)
WordsAgree (ok ws) limit to old new r = (r.ok ≡ true) × Written limit to ws old r.length new

-- r says what came of a part: its refusal, or its words, written below the limit from `to` on; the next word goes to r's length
pub record ComesTo (part : Result (List ℕ)) (limit to : ℕ) (old new : List ℕ) (r : Outcome) : Type 0 where
  pub is : WordsAgree part limit to old new r
