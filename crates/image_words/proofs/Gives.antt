-- What a reader gives, and where it stands: one law for each step of a reader.
use Prim.Native.Nat.{ℕ, zero, suc, ◌+◌, ◌-◌, ◌<◌, ◌≤◌}
use mathlib.Core.Path.{◌≡◌, refl, sym, ap, subst, ◌∙◌}
use mathlib.Core.Bool.{Bool, true, false, cond}
use mathlib.Core.List.{List, [], ◌∷◌}
use mathlib.Core.Option.{Option, none, some}
use native.Mathlib.Omega.{arith}
use lib.ListN.{length, drop}
use lib.Seq.{drop-drop}
use borrow.Author.Tests.{ltb-true, leb-true}
use Rattle.rules.specs.Reader.{Rest, rest_at, Reader, ◌>>=◌, bound, give, fail, rule, here, first, word, below, repeat, times, many, option, maybe, from}
use Rattle.rules.specs.ReadTypes.{sized}
use Rattle.image_words.proofs.Steps.{assoc_o}
use Rattle.image_words.specs.Gives.{Word, BelowAt, Row, Counted, MaybeAt}

-- nothing, or something that is so, and the words from the place behind it on are left
abbrev pub Yields : {A : Type 0} → List ℕ → (A → ℕ → Type 0) → Option (A × Rest) → Type 0
Yields ws P none = Unit {0}
Yields ws P (some p) = (p.1 ≡ rest_at ws p.1.at) × P p.0 p.1.at

-- all that the reader gives of the words from `at` on is so: P of it and of the place behind it
pub record Gives {A : Type 0} (r : Reader A) (ws : List ℕ) (at : ℕ) (P : A → ℕ → Type 0) : Type 0 where
  pub so : Yields ws P (r (rest_at ws at))

abbrev pub WordAt : List ℕ → ℕ → ℕ → ℕ → Type 0
WordAt ws w at n = Word ws at w × (n ≡ at + 1)

then_y : {A B : Type 0} (ws : List ℕ) (Q : A → ℕ → Type 0) (P : B → ℕ → Type 0) (o : Option (A × Rest)) (f : A → Reader B)
    → Yields ws Q o → ((a : A) (m : ℕ) → Q a m → Yields ws P (f a (rest_at ws m))) → Yields ws P (bound o f)
unfolding bound
then_y ws Q P none f y h = tt
then_y ws Q P (some p) f y h = subst (λ (q : Rest). Yields ws P (f p.0 q)) (sym y.0) (h p.0 p.1.at y.1)

-- a reading, and then what follows
pub then : {A B : Type 0} {r : Reader A} {f : A → Reader B} {ws : List ℕ} {at : ℕ} {Q : A → ℕ → Type 0} {P : B → ℕ → Type 0}
    → Gives r ws at Q → ((a : A) (m : ℕ) → Q a m → Gives (f a) ws m P) → Gives (r >>= f) ws at P
unfolding ◌>>=◌
then {A} {B} {r} {f} {ws} {at} {Q} {P} q h = record { so = then_y ws Q P (r (rest_at ws at)) f q.so (λ a m i. (h a m i).so) }

pub given : {A : Type 0} {a : A} {ws : List ℕ} {at : ℕ} (P : A → ℕ → Type 0) → P a at → Gives (give a) ws at P
unfolding give
given P p = record { so = (refl, p) }

pub failed : {A : Type 0} {ws : List ℕ} {at : ℕ} {P : A → ℕ → Type 0} → Gives fail ws at P
unfolding fail
failed = record { so = tt }

so_then_y : {A : Type 0} (ws : List ℕ) (Q P : A → ℕ → Type 0) (o : Option (A × Rest)) → Yields ws Q o → ((a : A) (m : ℕ) → Q a m → P a m) → Yields ws P o
so_then_y ws Q P none y h = tt
so_then_y ws Q P (some p) y h = (y.0, h p.0 p.1.at y.1)

-- something else of the same reading
pub so_then : {A : Type 0} {r : Reader A} {ws : List ℕ} {at : ℕ} {Q P : A → ℕ → Type 0} → Gives r ws at Q → ((a : A) (m : ℕ) → Q a m → P a m) → Gives r ws at P
so_then {A} {r} {ws} {at} {Q} {P} q h = record { so = so_then_y ws Q P (r (rest_at ws at)) q.so h }

both_y : {A : Type 0} (ws : List ℕ) (P Q : A → ℕ → Type 0) (o : Option (A × Rest)) → Yields ws P o → Yields ws Q o → Yields ws (λ a n. P a n × Q a n) o
both_y ws P Q none y z = tt
both_y ws P Q (some p) y z = (y.0, (y.1, z.1))

-- two things of the same reading
pub both : {A : Type 0} {r : Reader A} {ws : List ℕ} {at : ℕ} {P Q : A → ℕ → Type 0} → Gives r ws at P → Gives r ws at Q → Gives r ws at (λ a n. P a n × Q a n)
both {A} {r} {ws} {at} {P} {Q} g h = record { so = both_y ws P Q (r (rest_at ws at)) g.so h.so }

-- a reading in two steps
pub assoc : {A B C : Type 0} (r : Reader A) (f : A → Reader B) (g : B → Reader C) {ws : List ℕ} {at : ℕ} {P : C → ℕ → Type 0}
    → Gives (r >>= λ a. f a >>= g) ws at P → Gives (r >>= f >>= g) ws at P
unfolding ◌>>=◌
assoc r f g {ws} {at} {P} h = record { so = subst (Yields ws P) (assoc_o (r (rest_at ws at)) f g) h.so }

pub give_then : {A B : Type 0} (a : A) (f : A → Reader B) {ws : List ℕ} {at : ℕ} {P : B → ℕ → Type 0} → Gives (f a) ws at P → Gives (give a >>= f) ws at P
unfolding give ◌>>=◌ bound
give_then a f h = record { so = h.so }

-- the word that a list's rest starts with
stands : (ws : List ℕ) (at w : ℕ) (ys : List ℕ) → drop at ws ≡ w ∷ ys → Word ws at w
stands [] zero w ys e = absurd (let z : ◌≡◌ {A = ℕ} 0 1 = cc in omega arith)
stands [] (suc at) w ys e = absurd (let z : ◌≡◌ {A = ℕ} 0 1 = cc in omega arith)
stands (x ∷ ws) zero w ys e = record { inside = omega arith; is = cc }
stands (x ∷ ws) (suc at) w ys e = let i = stands ws at w ys e in record { inside = omega arith; is = i.is }

first_y : (ws : List ℕ) (at : ℕ) (xs : List ℕ) → drop at ws ≡ xs → Yields ws (λ w n. WordAt ws w at n) (first at xs)
unfolding first
first_y ws at [] e = tt
first_y ws at (w ∷ ys) e = (ap (λ (l : List ℕ). record { at = at + 1; left = l }) (ap (drop 1) (sym e) ∙ drop-drop 1 at ws), (stands ws at w ys e, refl))

pub word_gives : (ws : List ℕ) (at : ℕ) → Gives word ws at (λ w n. WordAt ws w at n)
unfolding word
word_gives ws at = record { so = first_y ws at (drop at ws) refl }

module _ {A : Type 0} {ws : List ℕ} {at : ℕ} {P : A → ℕ → Type 0} where
  pub place_then : (f : ℕ → Reader A) → Gives (f at) ws at P → Gives (here >>= f) ws at P
  unfolding here ◌>>=◌ bound
  place_then f h = record { so = h.so }

  pub rule_then : (b : Bool) (f : Unit {0} → Reader A) → (b ≡ true → Gives (f tt) ws at P) → Gives (rule b >>= f) ws at P
  unfolding rule ◌>>=◌ bound
  rule_then true f h = record { so = (h refl).so }
  rule_then false f h = record { so = tt }

  pub word_then : {f : ℕ → Reader A} → ((w : ℕ) → Word ws at w → Gives (f w) ws (at + 1) P) → Gives (word >>= f) ws at P
  word_then {f} h = then (word_gives ws at) (λ w m i. subst (λ (n : ℕ). Gives (f w) ws n P) (sym i.1) (h w i.0))

-- a word under a limit
pub below_then : {A : Type 0} {limit : ℕ} {f : ℕ → Reader A} {ws : List ℕ} {at : ℕ} {P : A → ℕ → Type 0}
    → ((w : ℕ) → Word ws at w → w < limit → Gives (f w) ws (at + 1) P) → Gives (below limit >>= f) ws at P
unfolding below
below_then {A} {limit} {f} h = assoc _ _ _ (word_then (λ w i. assoc _ _ _ (rule_then _ _ (λ l. give_then _ _ (h w i (ltb-true w limit l))))))

-- a run of at most 64 words
pub sized_gives : {A : Type 0} {r : Reader A} {ws : List ℕ} {at : ℕ} {P : A → ℕ → Type 0} → Gives r ws at P → Gives (sized r) ws at (λ a n. P a n × (n - at ≤ 64))
unfolding sized
sized_gives h = place_then _ (then h (λ t n p. place_then _ (rule_then _ _ (λ l. given _ (p, leb-true _ _ l)))))

pub below_gives : (limit : ℕ) (ws : List ℕ) (at : ℕ) → Gives (below limit) ws at (λ w n. BelowAt ws limit w at n)
unfolding below
below_gives limit ws at = word_then (λ w i. rule_then _ _ (λ l. given _ (i, ltb-true w limit l, refl)))

-- either of two readings
pub either : {A : Type 0} {ws : List ℕ} {at : ℕ} {P : A → ℕ → Type 0} (b : Bool) {r s : Reader A} → (b ≡ true → Gives r ws at P) → (b ≡ false → Gives s ws at P) → Gives (cond b r s) ws at P
either true g h = g refl
either false g h = h refl

-- readings one behind the other, counted readings, a reading that may be absent
module _ {A : Type 0} (Q : A → ℕ → ℕ → Type 0) {r : Reader A} {ws : List ℕ} (q : (at : ℕ) → Gives r ws at (λ a n. Q a at n)) where
  pub times_gives : (n at : ℕ) → Gives (times n r) ws at (λ xs m. Row Q xs at m × (length xs ≡ n))
  unfolding repeat
  times_gives zero at = given _ (refl, refl)
  times_gives (suc n) at = then (q at) (λ x m i. then (times_gives n m) (λ xs k w. given _ ((m, i, w.0), ap suc w.1)))

  pub many_gives : (most at : ℕ) → Gives (many most r) ws at (λ xs m. Counted ws most Q xs at m)
  unfolding many
  many_gives most at = below_then (λ w i l. so_then (times_gives w (at + 1)) (λ xs m x. (record { inside = i.inside; is = i.is ∙ sym x.1 }, omega arith, x.0)))

  option_gives : (w at : ℕ) → Word ws at w → w < 2 → Gives (option r w) ws (at + 1) (λ o n. MaybeAt ws Q o at n)
  unfolding option
  option_gives zero at i l = given _ (i, refl)
  option_gives (suc w) at i l = then (q (at + 1)) (λ a n x. given _ (let e : suc w ≡ 1 = omega arith in record { inside = i.inside; is = i.is ∙ e }, x))

  pub maybe_gives : (at : ℕ) → Gives (maybe r) ws at (λ o n. MaybeAt ws Q o at n)
  unfolding maybe
  maybe_gives at = below_then (λ w i l. option_gives w at i l)

-- a reading of other words: it stands there, and the own place stays
from_y : {A : Type 0} (ws words : List ℕ) (at : ℕ) (Q : A → ℕ → Type 0) (o : Option (A × Rest)) → Yields words Q o
    → Yields ws (λ a n. (n ≡ at) × (m : ℕ) × Q a m) (bound o (λ a q. some (a, rest_at ws at)))
unfolding bound
from_y ws words at Q none y = tt
from_y ws words at Q (some p) y = (refl, (refl, p.1.at, y.1))

pub from_gives : {A : Type 0} {r : Reader A} {words : List ℕ} {start : ℕ} {Q : A → ℕ → Type 0} → Gives r words start Q → (ws : List ℕ) (at : ℕ)
    → Gives (from words start r) ws at (λ a n. (n ≡ at) × (m : ℕ) × Q a m)
unfolding from
from_gives {A} {r} {words} {start} {Q} q ws at = record { so = from_y ws words at Q (r (rest_at words start)) q.so }

-- what is so of something that was given
pub of : {A : Type 0} {r : Reader A} {ws : List ℕ} {at : ℕ} {P : A → ℕ → Type 0} → Gives r ws at P → {a : A} {q : Rest} → r (rest_at ws at) ≡ some (a, q)
    → (q ≡ rest_at ws q.at) × P a q.at
of {A} {r} {ws} {at} {P} g e = subst (Yields ws P) e g.so
