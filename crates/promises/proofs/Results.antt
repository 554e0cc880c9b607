-- What an accepted step of the rules tells: each part of it was accepted.
use mathlib.Core.Path.{◌≡◌, refl}
use mathlib.Core.Bool.{Bool, true, false}
use mathlib.Core.Option.{Option, none, some}
use Rattle.rules.specs.Refusal.{Refusal, Result, ok, err, ◌>>=◌, ensure, or_refuse}
use Rattle.rules.proofs.Clash.{clash}

-- a refusal is no acceptance
pub no_ok : {A : Type 0} (r : Refusal) (a : A) → err r ≡ ok a → ⊥
no_ok r a e = clash (cc)

-- a step and what follows it
pub record Steps {A B : Type 0} (r : Result A) (f : A → Result B) (b : B) : Type 0 where
  pub value : A
  pub before : r ≡ ok value
  pub behind : f value ≡ ok b

pub steps : {A B : Type 0} (r : Result A) (f : A → Result B) (b : B) → (r >>= f) ≡ ok b → Steps r f b
unfolding ◌>>=◌
steps (ok a) f b e = record { value = a; before = refl; behind = e }
steps (err r) f b e = absurd (no_ok r b e)

pub ensured : {B : Type 0} (t : Bool) (r : Refusal) (f : Unit {0} → Result B) (b : B) → (ensure t r >>= f) ≡ ok b → (t ≡ true) × (f tt ≡ ok b)
unfolding ◌>>=◌ ensure
ensured true r f b e = (refl, e)
ensured false r f b e = absurd (no_ok r b e)

pub found : {A : Type 0} (o : Option A) (r : Refusal) (a : A) → or_refuse o r ≡ ok a → o ≡ some a
unfolding or_refuse
found none r a e = absurd (no_ok r a e)
found (some b) r a e = cc

pub same_ok : {A : Type 0} (a b : A) → ok a ≡ ok b → a ≡ b
same_ok a b e = cc

-- a step that is accepted goes on
pub goes_on : {A B : Type 0} (r : Result A) (f : A → Result B) (a : A) (b : B) → r ≡ ok a → f a ≡ ok b → (r >>= f) ≡ ok b
unfolding ◌>>=◌
goes_on (ok c) f a b p q = let e : c ≡ a = cc in rw e q
goes_on (err r) f a b p q = absurd (no_ok r a p)

pub is_there : {A : Type 0} (o : Option A) (r : Refusal) (a : A) → o ≡ some a → or_refuse o r ≡ ok a
unfolding or_refuse
is_there none r a e = clash (cc)
is_there (some b) r a e = cc
