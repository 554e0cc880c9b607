-- What comes of a call, and the answer that is made of it. Assumes nothing.
use Prim.Native.Nat.{ℕ, ◌*◌, ◌<◌, ◌≤◌}
use mathlib.Core.Path.{◌≡◌, refl, sym, ap, subst, ◌∙◌}
use mathlib.Core.Bool.{Bool, true, false, true≢false}
use mathlib.Core.List.{List}
use native.Mathlib.Omega.{arith}
use native.Mathlib.Nat.{le_refl}
use lib.ListN.{length}
use lib.Dec.{leb}
use borrow.Author.Tests.{le-leb, lt-leb}
use Rattle.rules.specs.Refusal as rules
use Rattle.rules.specs.Refusal.{Result, ok, err}
use Rattle.rules.specs.Answer as rules_answer
use Rattle.rules.specs.Answer.{accepted, too_short, finished}
use Rattle.words.proofs.Puts.{puts_start}
use Rattle.answers.specs.declared.answer.Answer.{Answer}
use Rattle.answers.specs.declared.answer.Outcome.{Outcome}
use Rattle.answers.specs.Refusals.{refusal_of}
use Rattle.answers.specs.Writes.{Writes}
use Rattle.answers.proofs.Fields.{short_of, accepts_of}
use Rattle.answers.specs.Answers.{answer_of, Refuses, TooShort, AcceptsAll, Agrees, Comes}

pub comes_err : {call : Result (ℕ × List ℕ)} {e : rules.Refusal} {old new : List ℕ} {r : Outcome} → call ≡ err e → r.ok ≡ false → refusal_of r.refusal ≡ e → Comes call old new r
comes_err {call} {e} {old} {new} {r} q n f = record { is = subst (λ (c : Result (ℕ × List ℕ)). Agrees c old new r) (sym q) (n, f) }

pub comes_ok : {call : Result (ℕ × List ℕ)} {v : ℕ} {ws old new : List ℕ} {r : Outcome} → call ≡ ok (v, ws) → r.ok ≡ true → r.visits ≡ v → Writes ws 0 r.length old new → Comes call old new r
comes_ok {call} {v} {ws} {old} {new} {r} q y e w = record { is = subst (λ (c : Result (ℕ × List ℕ)). Agrees c old new r) (sym q) (y, e, w) }

pub comes_same : {call other : Result (ℕ × List ℕ)} {old new : List ℕ} {r : Outcome} → call ≡ other → Comes other old new r → Comes call old new r
comes_same {old = old} {new} {r} q c = record { is = subst (λ (k : Result (ℕ × List ℕ)). Agrees k old new r) (sym q) c.is }

-- a call that is accepted
pub record Accepted (call : Result (ℕ × List ℕ)) (old new : List ℕ) (r : Outcome) : Type 0 where
  pub visits : ℕ
  pub words : List ℕ
  pub is : call ≡ ok (visits, words)
  pub counts : r.visits ≡ visits
  pub writes : Writes words 0 r.length old new

accepted_o : (call : Result (ℕ × List ℕ)) (old new : List ℕ) (r : Outcome) → Agrees call old new r → r.ok ≡ true → Accepted call old new r
accepted_o (err e) old new r a y = absurd (true≢false (sym y ∙ a.0))
accepted_o (ok p) old new r a y = record { visits = p.0; words = p.1; is = refl; counts = a.1; writes = a.2 }

refused_o : (call : Result (ℕ × List ℕ)) (old new : List ℕ) (r : Outcome) → Agrees call old new r → r.ok ≡ false → call ≡ err (refusal_of r.refusal)
refused_o (err e) old new r a n = ap (λ (x : rules.Refusal). err x) (sym a.1)
refused_o (ok p) old new r a n = absurd (true≢false (sym a.0 ∙ n))

module _ {call : Result (ℕ × List ℕ)} {old new : List ℕ} {r : Outcome} (c : Comes call old new r) where
  pub is_accepted : r.ok ≡ true → Accepted call old new r
  is_accepted y = accepted_o call old new r c.is y

  pub is_refused : r.ok ≡ false → call ≡ err (refusal_of r.refusal)
  is_refused n = refused_o call old new r c.is n

-- the three ends of a call on a readable image
module _ (call : Result (ℕ × List ℕ)) (a : Answer) where
  pub ends_refused : {e : rules.Refusal} (old new : List ℕ) → call ≡ err e → Refuses a e old new → (output : List ℕ) → answer_of a output new ≡ finished call output old
  unfolding finished
  ends_refused {e} old new q f output = f output ∙ ap (λ (c : Result (ℕ × List ℕ)). finished c output old) (sym q)

  finished_at : {v : ℕ} {ws : List ℕ} (b : Bool) (output detail : List ℕ) → leb (4 * length ws) (length output) ≡ b → call ≡ ok (v, ws)
      → finished call output detail ≡ (elim b as (λ _. rules_answer.Answer) [ true ↦ accepted v ws output detail | false ↦ too_short ws output detail ])
  unfolding finished
  finished_at {v} {ws} b output detail t q = ap (λ (c : Result (ℕ × List ℕ)). finished c output detail) q
      ∙ ap (λ (b : Bool). elim b as (λ _. rules_answer.Answer) [ true ↦ accepted v ws output detail | false ↦ too_short ws output detail ]) t

  pub ends_short : {v n : ℕ} {ws : List ℕ} → call ≡ ok (v, ws) → n ≡ 4 * length ws → TooShort a n → (output detail : List ℕ) → length output < n → answer_of a output detail ≡ finished call output detail
  ends_short {v} {n} {ws} q e f output detail l = short_of f ws output detail e ∙ sym (finished_at false output detail (lt-leb (4 * length ws) (length output) (omega (arith, e))) q)

  pub ends_accepted : {v n : ℕ} {ws : List ℕ} → call ≡ ok (v, ws) → AcceptsAll a n v → {output new : List ℕ} → Writes ws 0 n output new → (detail : List ℕ) → n ≤ length output
      → answer_of a new detail ≡ finished call output detail
  ends_accepted {v} {n} {ws} q f {output} {new} w detail l =
      let e : n ≡ 4 * length ws = omega (arith, w.place) in
      ap (λ (o : List ℕ). answer_of a o detail) (w.bytes ∙ puts_start (length output) ws output (omega (arith, e)) (le_refl _))
      ∙ accepts_of f ws output detail e
      ∙ sym (finished_at true output detail (le-leb (4 * length ws) (length output) (omega (arith, e))) q)
