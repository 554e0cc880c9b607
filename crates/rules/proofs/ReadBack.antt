-- Words that a reader reads: from words followed by anything it gives a value, and stands behind them. A law for each combinator.
use Prim.Native.Nat.{ℕ, ◌+◌, ◌-◌, ◌<◌, ◌≤◌}
use mathlib.Core.Path.{◌≡◌, refl, ap, subst, ◌∙◌}
use mathlib.Core.Bool.{Bool, true}
use mathlib.Core.List.{List, [], ◌∷◌, ◌++◌, append_assoc, append-nil}
use mathlib.Core.Option.{Option, none, some}
use native.Mathlib.Omega.{arith}
use lib.ListN.{length, length-append}
use lib.Dec.{ltb, leb}
use borrow.Author.Tests.{lt-ltb, le-leb}
use Rattle.rules.specs.Reader.{Rest, Reader, bound, ◌>>=◌, give, rule, here, first, word, below, repeat, times, many, option, maybe}
use Rattle.rules.specs.ReadTypes.{sized}
use Rattle.rules.specs.Output.{each, listed}
use Rattle.rules.specs.Good.{All}
use Rattle.rules.specs.Exact.{Reads}

-- the same value at the same words, at a place written otherwise
moved : {A : Type 0} (a : A) (rest : List ℕ) {m n : ℕ} → m ≡ n → ◌≡◌ {A = Option (A × Rest)} (some (a, record { at = m; left = rest })) (some (a, record { at = n; left = rest }))
moved {A} a rest e = ap (λ (n : ℕ). some (a, record { at = n; left = rest })) e

pub give_reads : {A : Type 0} (a : A) → Reads (give a) [] a
unfolding give
give_reads a = record { on = λ at rest. moved a rest (omega arith) }

pub then_reads : {A B : Type 0} {r : Reader A} (f : A → Reader B) {vs ws : List ℕ} {a : A} {b : B}
    → Reads r vs a → Reads (f a) ws b → Reads (r >>= f) (vs ++ ws) b
unfolding ◌>>=◌ bound
then_reads {A} {B} {r} f {vs} {ws} {a} {b} p q = record {
  on = λ at rest.
      ap (λ (l : List ℕ). bound (r (record { at = at; left = l })) f) (append_assoc vs ws rest)
      ∙ ap (λ (o : Option (A × Rest)). bound o f) (p.on at (ws ++ rest))
      ∙ q.on (at + length vs) rest
      ∙ moved b rest (omega (arith, length-append vs ws));
}

-- a last reading: behind it no word is read
pub end_reads : {A B : Type 0} {r : Reader A} (f : A → Reader B) {ws : List ℕ} {a : A} {b : B} → Reads r ws a → Reads (f a) [] b → Reads (r >>= f) ws b
end_reads {A} {B} {r} f {ws} {a} {b} p q = subst (λ (l : List ℕ). Reads (r >>= f) l b) (append-nil ws) (then_reads f p q)

pub last_reads : {A B : Type 0} {r : Reader A} (f : A → B) {ws : List ℕ} {a : A} → Reads r ws a → Reads (r >>= λ x. give (f x)) ws (f a)
last_reads f {ws} {a} p = end_reads _ p (give_reads (f a))

pub word_reads : {B : Type 0} (f : ℕ → Reader B) {w : ℕ} {ws : List ℕ} {b : B} → Reads (f w) ws b → Reads (word >>= f) (w ∷ ws) b
unfolding ◌>>=◌ bound word first
word_reads {B} f {w} {ws} {b} q = record { on = λ at rest. q.on (at + 1) rest ∙ moved b rest (omega arith) }

pub rule_reads : {B : Type 0} (c : Bool) (f : Unit {0} → Reader B) {ws : List ℕ} {b : B} → c ≡ true → Reads (f tt) ws b → Reads (rule c >>= f) ws b
unfolding ◌>>=◌ bound rule
rule_reads {B} c f {ws} {b} e q = record { on = λ at rest. ap (λ (c : Bool). bound (rule c (record { at = at; left = ws ++ rest })) f) e ∙ q.on at rest }

pub below_reads : {n x : ℕ} → x < n → Reads (below n) (x ∷ []) x
unfolding below
below_reads {n} {x} h = word_reads _ (rule_reads (ltb x n) _ (lt-ltb x n h) (give_reads x))

pub below_then : {B : Type 0} {n : ℕ} (f : ℕ → Reader B) {x : ℕ} {ws : List ℕ} {b : B} → x < n → Reads (f x) ws b → Reads (below n >>= f) (x ∷ ws) b
below_then f h q = then_reads f (below_reads h) q

-- readings one behind the other
module _ {A : Type 0} {r : Reader A} (P : A → Type 0) (words : A → List ℕ) (reads : (x : A) → P x → Reads r (words x) x) where
  pub times_reads : (xs : List A) → All P xs → Reads (times (length xs) r) (each words xs) xs
  unfolding repeat each
  times_reads [] h = give_reads []
  times_reads (x ∷ xs) h = then_reads _ (reads x h.0) (last_reads _ (times_reads xs h.1))

  pub many_reads : (most : ℕ) (xs : List A) → length xs ≤ most → All P xs → Reads (many most r) (listed words xs) xs
  unfolding many listed
  many_reads most xs l h = below_then _ (omega arith) (times_reads xs h)

-- 0, or 1 and a reading
pub maybe_none : {A : Type 0} (r : Reader A) → Reads (maybe r) (0 ∷ []) none
unfolding maybe option
maybe_none r = below_then _ (omega arith) (give_reads none)

pub maybe_some : {A : Type 0} {r : Reader A} {ws : List ℕ} {a : A} → Reads r ws a → Reads (maybe r) (1 ∷ ws) (some a)
unfolding maybe option
maybe_some h = below_then _ (omega arith) (last_reads some h)

-- at most 64 words
pub sized_reads : {A : Type 0} {r : Reader A} {ws : List ℕ} {a : A} → Reads r ws a → length ws ≤ 64 → Reads (sized r) ws a
unfolding sized here ◌>>=◌ bound give
sized_reads {A} {r} {ws} {a} h l = record {
  on = λ at rest.
      let few : at + length ws - at ≤ 64 = omega arith in
      ap (λ (o : Option (A × Rest)). bound o (λ t. here >>= λ stop. rule (leb (stop - at) 64) >>= λ _. give t)) (h.on at rest)
      ∙ ap (λ (c : Bool). bound (rule c (record { at = at + length ws; left = rest })) (λ _. give a)) (le-leb (at + length ws - at) 64 few)
      ∙ (unfold rule in refl);
}
