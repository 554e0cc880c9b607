-- What a reader gives: the words that it took, and what holds of them and the value. A law for each combinator.
use Prim.Native.Nat.{ℕ, ◌+◌, ◌-◌, ◌<◌, ◌≤◌}
use mathlib.Core.Path.{◌≡◌, refl, sym, ap, subst, ◌∙◌}
use mathlib.Core.Bool.{Bool, true, false, cond}
use mathlib.Core.List.{List, [], ◌∷◌, ◌++◌, append_assoc, append-nil}
use mathlib.Core.Option.{Option, none, some}
use native.Mathlib.Omega.{arith}
use lib.ListN.{length, drop, length-append}
use lib.Dec.{ltb, leb}
use borrow.Author.Tests.{ltb-true, leb-true}
use Rattle.rules.specs.Reader.{Rest, rest_at, Reader, bound, ◌>>=◌, give, fail, rule, here, first, word, below, from}
use Rattle.rules.specs.ReadTypes.{sized}
use Rattle.rules.proofs.Clash.{clash}
use Rattle.rules.specs.Exact.{Found, Gives}

no_some : {A : Type 0} (a : A) → none ≡ some a → ⊥
no_some a e = clash (cc)

-- weaker is given too
pub so : {A : Type 0} {r : Reader A} {P Q : A → List ℕ → Type 0} → Gives r P → ((a : A) (ws : List ℕ) → P a ws → Q a ws) → Gives r Q
so g h = record { found = λ p a q e. let f = g.found p a q e in record { words = f.words; left = f.left; at = f.at; holds = h a f.words f.holds } }

pub give_gives : {A : Type 0} (a : A) (P : A → List ℕ → Type 0) → P a [] → Gives (give a) P
unfolding give
give_gives {A} a P h = record {
  found = λ p b q e.
      let same : ◌≡◌ {A = A × Rest} (a, p) (b, q) = cc in
      subst (λ (x : A × Rest). Found P p x.0 x.1) same (record { words = []; left = refl; at = omega arith; holds = h });
}

pub fail_gives : {A : Type 0} {P : A → List ℕ → Type 0} → Gives fail P
unfolding fail
fail_gives = record { found = λ p b q e. absurd (no_some (b, q) e) }

-- a reading after another comes from the other's
record Both {A B : Type 0} (o : Option (A × Rest)) (f : A → Reader B) (b : B) (q : Rest) : Type 0 where
  value : A
  middle : Rest
  before : o ≡ some (value, middle)
  behind : f value middle ≡ some (b, q)

both : {A B : Type 0} (o : Option (A × Rest)) (f : A → Reader B) (b : B) (q : Rest) → bound o f ≡ some (b, q) → Both o f b q
unfolding bound
both none f b q e = absurd (no_some (b, q) e)
both (some p) f b q e = record { value = p.0; middle = p.1; before = refl; behind = e }

pub then_gives : {A B : Type 0} {r : Reader A} {f : A → Reader B} {P : A → List ℕ → Type 0} {Q : B → List ℕ → Type 0}
    → Gives r P → ((a : A) (vs : List ℕ) → P a vs → Gives (f a) (λ b ws. Q b (vs ++ ws))) → Gives (r >>= f) Q
unfolding ◌>>=◌
then_gives {A} {B} {r} {f} g h = record {
  found = λ p b q e.
      let s = both (r p) f b q e in
      let x = g.found p s.value s.middle s.before in
      let y = (h s.value x.words x.holds).found s.middle b q s.behind in
      record {
        words = x.words ++ y.words;
        left = x.left ∙ ap (λ (l : List ℕ). x.words ++ l) y.left ∙ sym (append_assoc x.words y.words q.left);
        at = omega (arith, x.at, y.at, length-append x.words y.words);
        holds = y.holds;
      };
}

-- a last reading: behind it no word is read
pub end_gives : {A B : Type 0} {r : Reader A} {f : A → Reader B} {P : A → List ℕ → Type 0} (Q : B → List ℕ → Type 0)
    → Gives r P → ((a : A) (ws : List ℕ) → P a ws → Gives (f a) (λ b vs. (vs ≡ []) × Q b ws)) → Gives (r >>= f) Q
end_gives Q g h =
    then_gives g (λ a vs p. so (h a vs p) (λ b ws i. subst (λ (l : List ℕ). Q b l) (sym (append-nil vs) ∙ ap (λ (l : List ℕ). vs ++ l) (sym i.0)) i.1))

pub last_gives : {A B : Type 0} {r : Reader A} {f : A → B} {P : A → List ℕ → Type 0} (Q : B → List ℕ → Type 0)
    → Gives r P → ((a : A) (ws : List ℕ) → P a ws → Q (f a) ws) → Gives (r >>= λ x. give (f x)) Q
last_gives {A} {B} {r} {f} Q g h = end_gives Q g (λ a ws p. give_gives (f a) _ (refl, h a ws p))

word_first : (at : ℕ) (ws : List ℕ) (w : ℕ) (q : Rest) → first at ws ≡ some (w, q) → (ws ≡ w ∷ q.left) × (q.at ≡ at + 1)
unfolding first
word_first at [] w q e = absurd (no_some (w, q) e)
word_first at (x ∷ ws) w q e =
    let same : ◌≡◌ {A = ℕ × Rest} (x, record { at = at + 1; left = ws }) (w, q) = cc in
    (ap (λ (p : ℕ × Rest). p.0 ∷ p.1.left) same, sym (ap (λ (p : ℕ × Rest). p.1.at) same))

pub word_gives : Gives word (λ w ws. ws ≡ w ∷ [])
unfolding word
word_gives = record {
  found = λ p w q e. let f = word_first p.at p.left w q e in record { words = w ∷ []; left = f.0; at = f.1; holds = refl };
}

module _ {B : Type 0} {Q : B → List ℕ → Type 0} where
  -- the words of a step are known
  pub word_then : {f : ℕ → Reader B} → ((w : ℕ) → Gives (f w) (λ b ws. Q b (w ∷ ws))) → Gives (word >>= f) Q
  word_then {f} h = then_gives word_gives (λ w vs e. so (h w) (λ b ws i. subst (λ (l : List ℕ). Q b (l ++ ws)) (sym e) i))

  pub rule_then : (c : Bool) (f : Unit {0} → Reader B) → (c ≡ true → Gives (f tt) Q) → Gives (rule c >>= f) Q
  unfolding ◌>>=◌ rule bound
  rule_then true f h = record { found = λ p b q e. (h refl).found p b q e }
  rule_then false f h = record { found = λ p b q e. absurd (no_some (b, q) e) }

pub below_gives : {n : ℕ} → Gives (below n) (λ w ws. (ws ≡ w ∷ []) × (w < n))
unfolding below
below_gives {n} = word_then (λ w. rule_then (ltb w n) _ (λ e. give_gives w _ (refl, ltb-true w n e)))

pub below_then : {B : Type 0} {n : ℕ} {f : ℕ → Reader B} {Q : B → List ℕ → Type 0} → ((w : ℕ) → w < n → Gives (f w) (λ b ws. Q b (w ∷ ws))) → Gives (below n >>= f) Q
below_then {B} {n} {f} {Q} h = then_gives below_gives (λ w vs e. so (h w e.1) (λ b ws i. subst (λ (l : List ℕ). Q b (l ++ ws)) (sym e.0) i))

-- either of two readings
pub cond_gives : {A : Type 0} {P : A → List ℕ → Type 0} (c : Bool) {r s : Reader A} → (c ≡ true → Gives r P) → (c ≡ false → Gives s P) → Gives (cond c r s) P
cond_gives true g h = g refl
cond_gives false g h = h refl

-- at most 64 words
pub sized_gives : {A : Type 0} {r : Reader A} {P : A → List ℕ → Type 0} → Gives r P → Gives (sized r) (λ a ws. P a ws × (length ws ≤ 64))
unfolding sized here ◌>>=◌ bound give
sized_gives {A} {r} {P} g = record {
  found = λ p b q e.
      let s = both (r p) (λ t. here >>= λ stop. rule (leb (stop - p.at) 64) >>= λ _. give t) b q e in
      let x = g.found p s.value s.middle s.before in
      let y = (rule_then {Q = λ c ws. (c ≡ s.value) × (ws ≡ []) × (s.middle.at - p.at ≤ 64)} (leb (s.middle.at - p.at) 64) (λ _. give s.value)
      (λ few. give_gives s.value _ (refl, refl, leb-true (s.middle.at - p.at) 64 few))).found s.middle b q s.behind in
      let h = y.holds in
      record {
        words = x.words;
        left = x.left ∙ ap (λ (l : List ℕ). x.words ++ l) (y.left ∙ ap (λ (l : List ℕ). l ++ q.left) h.1);
        at = omega (arith, x.at, y.at, ap length h.1);
        holds = (subst (λ (c : A). P c x.words) (sym h.0) x.holds, omega (arith, x.at, h.2));
      };
}

-- words that stood in a list from a place on, of which P holds with the value
pub record Stood {A : Type 0} (words : List ℕ) (start : ℕ) (P : A → List ℕ → Type 0) (a : A) : Type 0 where
  pub taken : List ℕ
  pub rest : List ℕ
  pub there : drop start words ≡ taken ++ rest
  pub holds : P a taken

-- other words from a place on; the own words stay
pub from_gives : {A : Type 0} {r : Reader A} {P : A → List ℕ → Type 0} (words : List ℕ) (start : ℕ)
    → Gives r P → Gives (from words start r) (λ a ws. (ws ≡ []) × Stood words start P a)
unfolding from bound
from_gives {A} {r} {P} words start g = record {
  found = λ p b q e.
      let s = both (r (rest_at words start)) (λ a _. some (a, p)) b q e in
      let x = g.found (rest_at words start) s.value s.middle s.before in
      let same : ◌≡◌ {A = A × Rest} (s.value, p) (b, q) = cc s.behind in
      let stood : Stood words start P s.value = record { taken = x.words; rest = s.middle.left; there = x.left; holds = x.holds } in
      subst (λ (y : A × Rest). Found (λ a ws. (ws ≡ []) × Stood words start P a) p y.0 y.1) same
      (record { words = []; left = refl; at = omega arith; holds = (refl, stood) });
}
