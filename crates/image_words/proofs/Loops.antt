-- Readings one behind the other: what is said of those that are left is said of all.
use Prim.Native.Nat.{ℕ, suc, ◌+◌, ◌-◌, ◌<◌, ◌≤◌}
use mathlib.Core.Path.{◌≡◌, refl, subst}
use mathlib.Core.Bool.{Bool, true, false}
use mathlib.Core.List.{List, [], ◌∷◌}
use mathlib.Core.Option.{Option as Maybe, none, some}
use native.Mathlib.Omega.{arith}
use lib.ListN.{get_or}
use Rattle.std.specs.Prelude.{Option, Some, None}
use Rattle.rules.specs.Reader.{Rest, rest_at, Reader, ◌>>=◌, bound, give, rule, below, repeat, times, many}
use Rattle.image_words.specs.Verdict.{Agrees, Says}
use Rattle.image_words.proofs.Verdict.{Left}
use Rattle.image_words.proofs.Gives.{Gives}
use Rattle.image_words.proofs.Says.{then, then_so, stop, last, given, rule_alone, rule_alone_stop, give_then, assoc, below_then}
use Rattle.image_words.proofs.Steps.{last_o}
use Rattle.image_words.specs.Loops.{tested}

module _ {A B : Type 0} (nil : B) (cons : A → B → B) {r : Reader A} {ws : List ℕ} {next : ℕ} (n i : ℕ) where
  pub repeat_more : i < n → {m : ℕ} → Says r ws next (Some m) → {d : Option ℕ} → Says (repeat nil cons (n - (i + 1)) r) ws m d → Says (repeat nil cons (n - i) r) ws next d
  unfolding repeat
  repeat_more l s h = let e : n - i ≡ suc (n - (i + 1)) = omega arith in rw e (then s (λ x. last (cons x) h))

  pub repeat_stop : i < n → Says r ws next None → Says (repeat nil cons (n - i) r) ws next None
  unfolding repeat
  repeat_stop l s = let e : n - i ≡ suc (n - (i + 1)) = omega arith in rw e (stop _ s)

pub repeat_done : {A B : Type 0} (nil : B) (cons : A → B → B) (r : Reader A) {ws : List ℕ} {next : ℕ} (n i : ℕ) → n ≤ i → Says (repeat nil cons (n - i) r) ws next (Some next)
unfolding repeat
repeat_done nil cons r n i l = let e : n - i ≡ 0 = omega arith in rw e (given nil)

-- all are left at the start
pub repeat_all : {A B : Type 0} (nil : B) (cons : A → B → B) (r : Reader A) {ws : List ℕ} {at : ℕ} (n : ℕ) {d : Option ℕ} → Says (repeat nil cons (n - 0) r) ws at d → Says (repeat nil cons n r) ws at d
repeat_all nil cons r n h = let z : n - 0 ≡ n = omega arith in rw z at h

pub all_start : {A B : Type 0} (nil : B) (cons : A → B → B) (r : Reader A) {ws : List ℕ} {at : ℕ} (n : ℕ) → Left (repeat nil cons (n - 0) r) at (repeat nil cons n r) ws at
all_start nil cons r n = record { so = λ d h. repeat_all _ _ r n h }

-- one turn of a loop over such readings, its start and its end
module _ {A B C : Type 0} (nil : B) (cons : A → B → B) (r : Reader A) {whole : Reader C} {ws : List ℕ} {at next : ℕ} (n i : ℕ) (inv : Left (repeat nil cons (n - i) r) next whole ws at) where
  pub turn : i < n → {m : ℕ} → Says r ws next (Some m) → Left (repeat nil cons (n - (i + 1)) r) m whole ws at
  turn l s = record { so = λ d h. inv.so d (repeat_more nil cons n i l s h) }

  pub turn_stop : i < n → Says r ws next None → Says whole ws at None
  turn_stop l s = inv.so _ (repeat_stop nil cons n i l s)

  pub turn_done : n ≤ i → Says whole ws at (Some next)
  turn_done l = inv.so _ (repeat_done nil cons r n i l)

-- a count, at most `most`, and so many readings
module _ {A : Type 0} (r : Reader A) (most : ℕ) {ws : List ℕ} {at : ℕ} where
  pub many_start : {n : ℕ} → Says (below (suc most)) ws at (Some n) → {w : ℕ} → w ≡ get_or ws at 0 → Left (times (w - 0) r) n (many most r) ws at
  unfolding many
  many_start s e = record { so = λ d h. below_then _ _ s e (repeat_all _ _ r _ h) }

  pub many_stop : Says (below (suc most)) ws at None → Says (many most r) ws at None
  unfolding many
  many_stop s = stop _ s

pub ruleset turns = (all_start, many_start, many_stop, turn, turn_stop, turn_done)

under_o : {A B C : Type 0} (ws : List ℕ) (o : Maybe (A × Rest)) (f : A → Reader B) (g : A → Reader C) (d : Option ℕ)
    → ((a : A) (p : Rest) → Agrees ws (f a p) d → Agrees ws (g a p) d) → Agrees ws (bound o f) d → Agrees ws (bound o g) d
unfolding bound
under_o ws none f g d h e = e
under_o ws (some p) f g d h e = h p.0 p.1 e

-- something is made of what passed the test
pub made : {A B : Type 0} (r : Reader A) (b : A → Bool) (g : A → B) {ws : List ℕ} {at : ℕ} {d : Option ℕ} → Says (tested r b) ws at d → Says (r >>= λ a. rule (b a) >>= λ _. give (g a)) ws at d
unfolding ◌>>=◌
made r b g {ws} {at} {d} s =
    record { is = under_o ws (r (rest_at ws at)) (λ a. rule (b a)) (λ a. rule (b a) >>= λ _. give (g a)) d (λ a p e. last_o ws (rule (b a) p) (λ u. g a) d e) s.is }

-- an equal test
pub test_same : {A : Type 0} (r : Reader A) (x y : A → Bool) → ((a : A) → x a ≡ y a) → {ws : List ℕ} {at : ℕ} {d : Option ℕ} → Says (tested r x) ws at d → Says (tested r y) ws at d
test_same {A} r x y e {ws} {at} {d} h = subst (λ (f : A → Bool). Says (tested r f) ws at d) (λ i a. e a i) h

dead_o : {A : Type 0} (ws : List ℕ) (o : Maybe (A × Rest)) (b : A → Bool) → ((a : A) → b a ≡ false) → Agrees ws (bound o (λ a. rule (b a))) None
unfolding bound rule
dead_o ws none b h = refl
dead_o ws (some p) b h = rw (h p.0) refl

-- a test that fails whatever is read: a loop may refuse early
pub test_dead : {A : Type 0} (r : Reader A) (b : A → Bool) → ((a : A) → b a ≡ false) → {ws : List ℕ} {at : ℕ} → Says (tested r b) ws at None
unfolding ◌>>=◌
test_dead r b h {ws} {at} = record { is = dead_o ws (r (rest_at ws at)) b h }

give_in : {A B C : Type 0} (r : Reader A) (g : A → B) (f : B → Reader C) {ws : List ℕ} {at : ℕ} {d : Option ℕ} → Says (r >>= λ a. f (g a)) ws at d → Says (r >>= λ a. give (g a) >>= f) ws at d
unfolding ◌>>=◌ give bound
give_in r g f h = record { is = h.is }

-- n readings and a test: one more, of which P is so; one that gave nothing; the end
module _ {A : Type 0} {r : Reader A} (b : List A → Bool) {ws : List ℕ} {next : ℕ} (n i : ℕ) where
  pub test_more : i < n → {P : A → ℕ → Type 0} {m : ℕ} → Gives r ws next P → Says r ws next (Some m) → {d : Option ℕ}
      → ((x : A) → P x m → Says (tested (times (n - (i + 1)) r) (λ xs. b (x ∷ xs))) ws m d) → Says (tested (times (n - i) r) b) ws next d
  unfolding repeat
  test_more l g s h = let e : n - i ≡ suc (n - (i + 1)) = omega arith in rw e (assoc _ _ _ (then_so g s (λ x q. assoc _ _ _ (give_in _ _ _ (h x q)))))

  pub test_stop : i < n → Says r ws next None → Says (tested (times (n - i) r) b) ws next None
  test_stop l s = stop _ (repeat_stop [] ◌∷◌ n i l s)

module _ {A : Type 0} (r : Reader A) (b : List A → Bool) {ws : List ℕ} {next : ℕ} (n i : ℕ) (l : n ≤ i) where
  pub test_done : b [] ≡ true → Says (tested (times (n - i) r) b) ws next (Some next)
  unfolding repeat
  test_done e = let z : n - i ≡ 0 = omega arith in rw z (give_then _ _ (rule_alone e))

  pub test_fails : b [] ≡ false → Says (tested (times (n - i) r) b) ws next None
  unfolding repeat
  test_fails e = let z : n - i ≡ 0 = omega arith in rw z (give_then _ _ (rule_alone_stop e))

-- a count, at most `most`, so many readings, and a test
module _ {A : Type 0} (r : Reader A) (b : List A → Bool) (most : ℕ) {ws : List ℕ} {at n : ℕ} (s : Says (below (suc most)) ws at (Some n)) where
  pub many_tested : {w : ℕ} → w ≡ get_or ws at 0 → {d : Option ℕ} → Says (tested (times (w - 0) r) b) ws n d → Says (tested (many most r) b) ws at d
  unfolding many
  many_tested {w} e h = let z : w - 0 ≡ w = omega arith in assoc _ _ _ (below_then _ _ s e (rw z at h))
