-- From what the code saw to what the reader says, one law for each step of a reader.
use Prim.Native.Nat.{ℕ, zero, suc, ◌+◌, ◌-◌, ◌<◌, ◌≤◌}
use mathlib.Core.Path.{◌≡◌, refl, ap, subst, ◌∙◌}
use mathlib.Core.Bool.{Bool, true, false, cond}
use mathlib.Core.List.{List}
use mathlib.Core.Option.{Option as Maybe, none, some}
use native.Mathlib.Omega.{arith}
use lib.ListN.{length, get_or}
use borrow.Author.Tests.{lt-ltb, le-ltb, le-leb, lt-leb}
use Rattle.std.specs.Prelude.{Option, Some, None, ◌&&◌, leb}
use Rattle.rules.specs.Words.{within}
use Rattle.rules.specs.Reader.{Rest, rest_at, Reader, ◌>>=◌, bound, give, fail, rule, here, first, word, below, option, maybe, from}
use Rattle.rules.specs.ReadTypes.{sized}
use Rattle.image_words.specs.Verdict.{Agrees, Says}
use Rattle.image_words.proofs.Sections.{drop_past}
use Rattle.image_words.proofs.Steps.{first_in, assoc_o, then_o, stop_o, last_o}
use Rattle.image_words.proofs.Gives as gives
use Rattle.image_words.proofs.Gives.{Gives}

-- a reading that gave something, and then what follows, which may know what it gave
pub then_as : {A B : Type 0} {r : Reader A} {f : A → Reader B} {ws : List ℕ} {at n : ℕ} {d : Option ℕ} → Says r ws at (Some n)
    → ((a : A) → r (rest_at ws at) ≡ some (a, rest_at ws n) → Says (f a) ws n d) → Says (r >>= f) ws at d
unfolding ◌>>=◌
then_as {A} {B} {r} {f} {ws} {at} {n} {d} s h = record { is = then_o ws (r (rest_at ws at)) f n d s.is (λ a e. (h a e).is) }

pub then : {A B : Type 0} {r : Reader A} {f : A → Reader B} {ws : List ℕ} {at n : ℕ} {d : Option ℕ} → Says r ws at (Some n) → ((a : A) → Says (f a) ws n d) → Says (r >>= f) ws at d
then s h = then_as s (λ a e. h a)

-- the same, by what is so of all that the reader gives
pub then_so : {A B : Type 0} {r : Reader A} {f : A → Reader B} {ws : List ℕ} {at n : ℕ} {P : A → ℕ → Type 0} {d : Option ℕ} → Gives r ws at P → Says r ws at (Some n)
    → ((a : A) → P a n → Says (f a) ws n d) → Says (r >>= f) ws at d
then_so g s h = then_as s (λ a e. h a (gives.of g e).1)

-- a reading that gave nothing
pub stop : {A B : Type 0} {r : Reader A} (f : A → Reader B) {ws : List ℕ} {at : ℕ} → Says r ws at None → Says (r >>= f) ws at None
unfolding ◌>>=◌
stop {A} {B} {r} f {ws} {at} s = record { is = stop_o ws (r (rest_at ws at)) f s.is }

-- the last reading, of which something is made
pub last : {A B : Type 0} {r : Reader A} (f : A → B) {ws : List ℕ} {at : ℕ} {c : Option ℕ} → Says r ws at c → Says (r >>= λ a. give (f a)) ws at c
unfolding ◌>>=◌
last {A} {B} {r} f {ws} {at} {c} s = record { is = last_o ws (r (rest_at ws at)) f c s.is }

-- something is made of what was read before
pub given : {A : Type 0} (a : A) {ws : List ℕ} {n : ℕ} → Says (give a) ws n (Some n)
unfolding give
given a = record { is = refl }

pub failed : {A : Type 0} {ws : List ℕ} {at : ℕ} → Says (fail {A = A}) ws at None
unfolding fail
failed = record { is = refl }

pub place_then : {A : Type 0} (f : ℕ → Reader A) {ws : List ℕ} {at : ℕ} {d : Option ℕ} → Says (f at) ws at d → Says (here >>= f) ws at d
unfolding here ◌>>=◌ bound
place_then f h = record { is = h.is }

pub rule_then : {A : Type 0} (f : Unit {0} → Reader A) {b : Bool} {ws : List ℕ} {at : ℕ} {d : Option ℕ} → b ≡ true → Says (f tt) ws at d → Says (rule b >>= f) ws at d
unfolding rule ◌>>=◌ bound
rule_then f e h = rw e (record { is = h.is })

pub rule_stop : {A : Type 0} (f : Unit {0} → Reader A) {b : Bool} {ws : List ℕ} {at : ℕ} → b ≡ false → Says (rule b >>= f) ws at None
unfolding rule ◌>>=◌ bound
rule_stop f e = rw e (record { is = refl })

-- a rule that a number lies between two others, both included
module _ {A : Type 0} (f : Unit {0} → Reader A) (low high n : ℕ) {ws : List ℕ} {at : ℕ} where
  pub within_then : low ≤ n → n ≤ high → {d : Option ℕ} → Says (f tt) ws at d → Says (rule (within low high n) >>= f) ws at d
  within_then l h s = rule_then f (rw (le-leb low n l, le-leb n high h) refl) s

  pub within_under : n < low → Says (rule (within low high n) >>= f) ws at None
  within_under l = rule_stop f (rw (lt-leb low n l) refl)

  pub within_over : high < n → Says (rule (within low high n) >>= f) ws at None
  within_over h = rule_stop f (go (leb low n))
    where
      go : (b : Bool) → (b && leb n high) ≡ false
      go true = lt-leb n high h
      go false = refl

-- a rule by itself
pub rule_alone : {b : Bool} {ws : List ℕ} {n : ℕ} → b ≡ true → Says (rule b) ws n (Some n)
unfolding rule
rule_alone e = rw e (record { is = refl })

pub rule_alone_stop : {b : Bool} {ws : List ℕ} {at : ℕ} → b ≡ false → Says (rule b) ws at None
unfolding rule
rule_alone_stop e = rw e (record { is = refl })

pub give_then : {A B : Type 0} (a : A) (f : A → Reader B) {ws : List ℕ} {at : ℕ} {d : Option ℕ} → Says (f a) ws at d → Says (give a >>= f) ws at d
unfolding give ◌>>=◌ bound
give_then a f h = record { is = h.is }

-- a reading in two steps, and then what follows
pub assoc : {A B C : Type 0} (r : Reader A) (f : A → Reader B) (g : B → Reader C) {ws : List ℕ} {at : ℕ} {d : Option ℕ} → Says (r >>= λ a. f a >>= g) ws at d → Says (r >>= f >>= g) ws at d
unfolding ◌>>=◌
assoc {C = C} r f g {ws} {at} {d} h = record { is = subst (λ (o : Maybe (C × Rest)). Agrees ws o d) (assoc_o (r (rest_at ws at)) f g) h.is }

-- either of two readings
module _ {A : Type 0} (r s : Reader A) {b : Bool} {ws : List ℕ} {at : ℕ} {c : Option ℕ} where
  pub either_first : b ≡ true → Says r ws at c → Says (cond b r s) ws at c
  either_first e h = rw e h

  pub either_second : b ≡ false → Says s ws at c → Says (cond b r s) ws at c
  either_second e h = rw e h

-- a word by itself
module _ {ws : List ℕ} {at : ℕ} where
  pub word_in : at < length ws → Says word ws at (Some (at + 1))
  unfolding word
  word_in l = record { is = rw (first_in ws at l) refl }

  pub word_out : length ws ≤ at → Says word ws at None
  unfolding word first
  word_out l = record { is = rw (drop_past at ws l) refl }

-- a word that was found, as the code read it, and then what follows
module _ {A : Type 0} (f : ℕ → Reader A) {ws : List ℕ} {at n : ℕ} where
  pub word_then : Says word ws at (Some n) → {w : ℕ} → w ≡ get_or ws at 0 → {d : Option ℕ} → Says (f w) ws n d → Says (word >>= f) ws at d
  word_then s e {d} h = then_so (gives.word_gives ws at) s (λ a p. subst (λ (x : ℕ). Says (f x) ws n d) (e ∙ p.0.is) h)

  pub below_then : (limit : ℕ) → Says (below limit) ws at (Some n) → {w : ℕ} → w ≡ get_or ws at 0 → {d : Option ℕ} → Says (f w) ws n d → Says (below limit >>= f) ws at d
  below_then limit s e {d} h = then_so (gives.below_gives limit ws at) s (λ a p. subst (λ (x : ℕ). Says (f x) ws n d) (e ∙ p.0.is) h)

-- a word under a limit by itself
module _ {ws : List ℕ} {at : ℕ} where
  module _ {n : ℕ} (s : Says word ws at (Some n)) {w : ℕ} (e : w ≡ get_or ws at 0) {limit : ℕ} where
    pub below_in : w < limit → Says (below limit) ws at (Some n)
    unfolding below
    below_in l = word_then _ s e (rule_then _ (lt-ltb _ _ l) (given _))

    pub below_over : limit ≤ w → Says (below limit) ws at None
    unfolding below
    below_over l = word_then _ s e (rule_stop _ (le-ltb _ _ l))

  pub below_past : Says word ws at None → (limit : ℕ) → Says (below limit) ws at None
  unfolding below
  below_past s limit = stop _ s

pub ruleset below_steps = (below_in, below_over, below_past)

-- 0, or 1 and a reading
module _ {A : Type 0} (r : Reader A) {ws : List ℕ} {at : ℕ} where
  pub maybe_stop : Says (below 2) ws at None → Says (maybe r) ws at None
  unfolding maybe
  maybe_stop s = stop _ s

  module _ {n : ℕ} (s : Says (below 2) ws at (Some n)) where
    pub maybe_none : {w : ℕ} → w ≡ get_or ws at 0 → w ≡ 0 → Says (maybe r) ws at (Some n)
    unfolding maybe option
    maybe_none e z = below_then _ _ s e (rw z (given _))

    pub maybe_some : (w : ℕ) → w ≡ get_or ws at 0 → (w ≡ 0 → ⊥) → {d : Option ℕ} → Says r ws n d → Says (maybe r) ws at d
    unfolding maybe option
    maybe_some zero e z h = absurd (z refl)
    maybe_some (suc w) e z h = below_then _ _ s e (last _ h)

pub ruleset maybe_steps = (maybe_stop, maybe_none, maybe_some)

-- a run of at most 64 words
module _ {A : Type 0} {r : Reader A} {ws : List ℕ} {at : ℕ} where
  pub sized_stop : Says r ws at None → Says (sized r) ws at None
  unfolding sized
  sized_stop s = place_then _ (stop _ s)

  module _ {n : ℕ} (s : Says r ws at (Some n)) where
    pub sized_in : n - at ≤ 64 → Says (sized r) ws at (Some n)
    unfolding sized
    sized_in l = place_then _ (then s (λ t. place_then _ (rule_then _ (le-leb _ _ l) (given _))))

    pub sized_over : 64 < n - at → Says (sized r) ws at None
    unfolding sized
    sized_over l = place_then _ (then s (λ t. place_then _ (rule_stop _ (lt-leb _ _ l))))

pub ruleset sized_steps = (sized_stop, sized_in, sized_over)

-- a reading of other words; the place stays
from_then_o : {A B : Type 0} (words ws : List ℕ) (o : Maybe (A × Rest)) (p : Rest) (g : A → Reader B) (n : ℕ) (d : Option ℕ) → Agrees words o (Some n)
    → ((a : A) → Agrees ws (g a p) d) → Agrees ws (bound (bound o (λ a q. some (a, p))) g) d
unfolding bound
from_then_o words ws none p g n d e h = absurd cc
from_then_o words ws (some x) p g n d e h = h x.0

from_stop_o : {A B : Type 0} (words ws : List ℕ) (o : Maybe (A × Rest)) (p : Rest) (g : A → Reader B) → Agrees words o None → Agrees ws (bound (bound o (λ a q. some (a, p))) g) None
unfolding bound
from_stop_o words ws none p g e = e
from_stop_o words ws (some x) p g e = absurd e

module _ {A B : Type 0} {r : Reader A} {words : List ℕ} {start : ℕ} {ws : List ℕ} {at : ℕ} where
  pub from_then : {n : ℕ} → Says r words start (Some n) → {f : A → Reader B} {d : Option ℕ} → ((a : A) → Says (f a) ws at d) → Says (from words start r >>= f) ws at d
  unfolding ◌>>=◌ from
  from_then {n} s {f} {d} h = record { is = from_then_o words ws (r (rest_at words start)) (rest_at ws at) f n d s.is (λ a. (h a).is) }

  pub from_stop : Says r words start None → (f : A → Reader B) → Says (from words start r >>= f) ws at None
  unfolding ◌>>=◌ from
  from_stop s f = record { is = from_stop_o words ws (r (rest_at words start)) (rest_at ws at) f s.is }

-- what stands where the code said that something stands
got_o : {A : Type 0} (ws : List ℕ) (o : Maybe (A × Rest)) (n : ℕ) → Agrees ws o (Some n) → (a : A) × (o ≡ some (a, rest_at ws n))
got_o ws none n e = absurd cc
got_o ws (some p) n e = (p.0, ap (λ (q : Rest). some (p.0, q)) e)

pub got : {A : Type 0} {r : Reader A} {ws : List ℕ} {at n : ℕ} → Says r ws at (Some n) → (a : A) × (r (rest_at ws at) ≡ some (a, rest_at ws n))
got {A} {r} {ws} {at} {n} s = got_o ws (r (rest_at ws at)) n s.is

-- and what is so of it
pub got_so : {A : Type 0} {r : Reader A} {ws : List ℕ} {at n : ℕ} {P : A → ℕ → Type 0} → Gives r ws at P → Says r ws at (Some n) → (a : A) × (r (rest_at ws at) ≡ some (a, rest_at ws n)) × P a n
got_so g s = let x = got s in (x.0, x.1, (gives.of g x.1).1)

-- the word that was found under a limit
pub below_value : (limit : ℕ) {ws : List ℕ} {at n : ℕ} → Says (below limit) ws at (Some n) → get_or ws at 0 < limit
below_value limit {ws} {at} s = let x = got_so (gives.below_gives limit ws at) s in omega (arith, x.2.0.is, x.2.1)

-- the code refuses only where nothing is given
none_o : {A : Type 0} (ws : List ℕ) (o : Maybe (A × Rest)) → Agrees ws o None → o ≡ none
none_o ws none e = refl
none_o ws (some p) e = absurd e

pub nothing : {A : Type 0} {r : Reader A} {ws : List ℕ} {at : ℕ} → Says r ws at None → r (rest_at ws at) ≡ none
nothing {A} {r} {ws} {at} s = none_o ws (r (rest_at ws at)) s.is

-- what most of the checks take; and a rule besides
pub ruleset steps = (then, stop, last, given, failed, below_then)

pub ruleset rule_steps = (then, stop, given, word_then, rule_then, rule_stop, within_then, within_under, within_over)
