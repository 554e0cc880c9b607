-- What came of a part, by its equation, and behind words written before it.
use Prim.Native.Nat.{ℕ}
use mathlib.Core.Path.{◌≡◌, refl, sym, ap, subst, ◌∙◌}
use mathlib.Core.Bool.{true, false, false≢true}
use mathlib.Core.List.{List, ◌++◌}
use Rattle.rules.specs.Refusal.{Refusal, Result, ok, err, ◌>>=◌}
use Rattle.answers.specs.declared.answer.Outcome.{Outcome}
use Rattle.answers.specs.Refusals.{refusal_of}
use Rattle.write_words.specs.Written.{Written}
use Rattle.write_words.proofs.Written.{written_then}
use Rattle.project_outcome.specs.Outcomes.{PassesAgrees, Passes, FirstRefusal, WordsAgree, ComesTo}

-- words before those of a part
unfoldable pub behind : List ℕ → Result (List ℕ) → Result (List ℕ)
behind vs part = part >>= λ ws. ok (vs ++ ws)

module _ {limit to : ℕ} {old new : List ℕ} {r : Outcome} where
  pub comes_same : {part whole : Result (List ℕ)} → whole ≡ part → ComesTo part limit to old new r → ComesTo whole limit to old new r
  comes_same q h = record { is = subst (λ (p : Result (List ℕ)). WordsAgree p limit to old new r) (sym q) h.is }

  pub comes_err : {part : Result (List ℕ)} {e : Refusal} → part ≡ err e → r.ok ≡ false → refusal_of r.refusal ≡ e → ComesTo part limit to old new r
  comes_err q f e = comes_same q (record { is = (f, e) })

  pub comes_ok : {part : Result (List ℕ)} {ws : List ℕ} → part ≡ ok ws → r.ok ≡ true → Written limit to ws old r.length new → ComesTo part limit to old new r
  comes_ok q t w = comes_same q (record { is = (t, w) })

module _ {limit to a : ℕ} {vs old mid new : List ℕ} {r : Outcome} where
  -- a part behind words written before
  pub comes_behind : Written limit to vs old a mid → {part : Result (List ℕ)} → ComesTo part limit a mid new r → ComesTo (behind vs part) limit to old new r
  unfolding behind ◌>>=◌
  comes_behind w {part} h = record { is = go part h.is }
    where
      go : (part : Result (List ℕ)) → WordsAgree part limit a mid new r → WordsAgree (part >>= λ ws. ok (vs ++ ws)) limit to old new r
      go (err e) h = h
      go (ok ws) h = (h.0, written_then limit to w h.1)

module _ {limit to : ℕ} {old new : List ℕ} {r : Outcome} where
  -- a refusal of a part is what r has
  pub came_err : {part : Result (List ℕ)} → ComesTo part limit to old new r → r.ok ≡ false → part ≡ err (refusal_of r.refusal)
  came_err {part} h q = go part h.is
    where
      go : (part : Result (List ℕ)) → WordsAgree part limit to old new r → part ≡ err (refusal_of r.refusal)
      go (err e) h = ap err (sym h.1)
      go (ok ws) h = absurd (false≢true (sym q ∙ h.0))

  -- else its words are written
  pub came_ok : {part : Result (List ℕ)} → ComesTo part limit to old new r → r.ok ≡ true → (ws : List ℕ) × (part ≡ ok ws) × Written limit to ws old r.length new
  came_ok {part} h q = go part h.is
    where
      go : (part : Result (List ℕ)) → WordsAgree part limit to old new r → (ws : List ℕ) × (part ≡ ok ws) × Written limit to ws old r.length new
      go (err e) h = absurd (false≢true (sym h.0 ∙ q))
      go (ok ws) h = (ws, refl, h.1)

-- a part behind a test: the refusal that comes first, or its words
module _ {limit to : ℕ} {old new : List ℕ} {a b r : Outcome} (f : FirstRefusal a b r) {test : Result (Unit {0})} {part : Result (List ℕ)} (p : Passes test a) (c : ComesTo part limit to old new b) where
  pub part_behind : ComesTo (test >>= λ _. part) limit to old new r
  unfolding ◌>>=◌
  part_behind = go test p.is
    where
      go : (t : Result (Unit {0})) → PassesAgrees t a → ComesTo (t >>= λ _. part) limit to old new r
      go (err e) h = record { is = subst (PassesAgrees (err e)) (sym (f.refuses h.0)) h }
      go (ok u) h = subst (ComesTo part limit to old new) (sym (f.passes h)) c

  pub part_done : r.ok ≡ true → {o : Outcome} → o.ok ≡ true → o.length ≡ b.length → ComesTo (test >>= λ _. part) limit to old new o
  unfolding ◌>>=◌
  part_done q {o} y e = go test p.is
    where
      go : (t : Result (Unit {0})) → PassesAgrees t a → ComesTo (t >>= λ _. part) limit to old new o
      go (err x) h = absurd (false≢true (sym h.0 ∙ sym (ap (λ (x : Outcome). x.ok) (f.refuses h.0)) ∙ q))
      go (ok u) h =
          let w = came_ok c (sym (ap (λ (x : Outcome). x.ok) (f.passes h)) ∙ q) in
          comes_ok w.1 y (subst (λ (n : ℕ). Written limit to w.0 old n new) (sym e) w.2)
