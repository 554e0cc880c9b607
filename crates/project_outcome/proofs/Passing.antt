-- Tests one behind the other, and what is said of each.
use Prim.Native.Nat.{ℕ}
use native.Mathlib.Omega.{arith}
use mathlib.Core.Path.{◌≡◌, refl, sym, ap, subst, ◌∙◌}
use mathlib.Core.Bool.{Bool, true, false}
use Rattle.rules.specs.Refusal as rules
use Rattle.rules.specs.Refusal.{Result, ok, err, ◌>>=◌, ensure}
use Rattle.answers.specs.declared.answer.Outcome.{Outcome}
use Rattle.answers.specs.Refusals.{refusal_of}
use Rattle.project_outcome.specs.Outcomes.{PassesAgrees, Passes, test_of, FirstRefusal}
use Rattle.image_words.proofs.Steps.{true_false}

-- one test
pub passed : (b : Bool) (e : rules.Refusal) (r : Outcome) → b ≡ true → r.ok ≡ true → Passes (ensure b e) r
unfolding ensure
passed true e r t o = record { is = o }
passed false e r t o = absurd (true_false (sym t))

pub refused : (b : Bool) (e : rules.Refusal) (r : Outcome) → b ≡ false → r.ok ≡ false → refusal_of r.refusal ≡ e → Passes (ensure b e) r
unfolding ensure
refused true e r t o q = absurd (true_false t)
refused false e r t o q = record { is = (o, q) }

-- nothing was asked
pub nothing : (r : Outcome) → r.ok ≡ true → Passes (ok tt) r
nothing r o = record { is = o }

-- a test that refuses is the last
pub stopped : (m : Result (Unit {0})) (f : Unit {0} → Result (Unit {0})) (r : Outcome) → Passes m r → r.ok ≡ false → Passes (m >>= f) r
unfolding ◌>>=◌
stopped (ok u) f r p o = absurd (true_false (sym p.is ∙ o))
stopped (err e) f r p o = record { is = p.is }

-- behind a test that is passed, the next says all
pub passed_then : (m : Result (Unit {0})) (f : Unit {0} → Result (Unit {0})) (q : Outcome) → Passes m q → q.ok ≡ true → m >>= f ≡ f tt
unfolding ◌>>=◌
passed_then (ok tt) f q p o = refl
passed_then (err e) f q p o = absurd (true_false (sym o ∙ p.is.0))

-- two tests and what follows
pub both_then : {A : Type 0} (m n : Result (Unit {0})) (k : Result A) → (m >>= λ _. (n >>= λ _. k)) ≡ ((m >>= λ _. n) >>= λ _. k)
unfolding ◌>>=◌
both_then (ok tt) n k = refl
both_then (err e) n k = refl

-- a test that was not passed, or was
pub not_passed : {test : Result (Unit {0})} {r : Outcome} → Passes test r → r.ok ≡ false → test ≡ err (refusal_of r.refusal)
not_passed {test} {r} p n = go test p.is
  where
    go : (t : Result (Unit {0})) → PassesAgrees t r → t ≡ err (refusal_of r.refusal)
    go (err e) h = ap err (sym h.1)
    go (ok u) h = absurd (true_false (sym h ∙ n))

pub was_passed : {test : Result (Unit {0})} {r : Outcome} → Passes test r → r.ok ≡ true → test ≡ ok tt
was_passed {test} {r} p y = go test p.is
  where
    go : (t : Result (Unit {0})) → PassesAgrees t r → t ≡ ok tt
    go (err e) h = absurd (true_false (sym y ∙ h.0))
    go (ok u) h = refl

-- two tests, in this order
pub in_order : {a b r : Outcome} → FirstRefusal a b r → {m n : Result (Unit {0})} → Passes m a → Passes n b → Passes (m >>= λ _. n) r
unfolding ◌>>=◌
in_order {a} {b} {r} f {m} {n} p q = go m p.is
  where
    go : (t : Result (Unit {0})) → PassesAgrees t a → Passes (t >>= λ _. n) r
    go (err e) h = record { is = subst (PassesAgrees (err e)) (sym (f.refuses h.0)) h }
    go (ok u) h = subst (Passes n) (sym (f.passes h)) q

-- a test, and a part of which it is asked only whether it is refused
module _ {A B : Type 0} (m : Result (Unit {0})) (part : Result A) (f : A → Result B) where
  pub all_refused : {e : rules.Refusal} → (m >>= λ _. test_of part) ≡ err e → (m >>= λ _. part >>= f) ≡ err e
  unfolding ◌>>=◌
  all_refused {e} = go m part
    where
      go : (t : Result (Unit {0})) (p : Result A) → (t >>= λ _. test_of p) ≡ err e → (t >>= λ _. p >>= f) ≡ err e
      go (err x) p h = let s : x ≡ e = cc in ap err s
      go (ok u) (err x) h = let s : x ≡ e = cc in ap err s
      go (ok u) (ok v) h = absurd (let z : ◌≡◌ {A = ℕ} 0 1 = cc in omega arith)

  pub all_passed : (m >>= λ _. test_of part) ≡ ok tt → (v : A) × (part ≡ ok v) × ((m >>= λ _. part >>= f) ≡ f v)
  unfolding ◌>>=◌
  all_passed = go m part
    where
      go : (t : Result (Unit {0})) (p : Result A) → (t >>= λ _. test_of p) ≡ ok tt → (v : A) × (p ≡ ok v) × ((t >>= λ _. p >>= f) ≡ f v)
      go (err x) p h = absurd (let z : ◌≡◌ {A = ℕ} 0 1 = cc in omega arith)
      go (ok u) (err x) h = absurd (let z : ◌≡◌ {A = ℕ} 0 1 = cc in omega arith)
      go (ok u) (ok v) h = (v, refl, refl)
