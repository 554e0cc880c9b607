-- What holds of each element of a list, and of what may be absent.
use Prim.Native.Nat.{ℕ, zero, suc}
use mathlib.Core.List.{List, [], ◌∷◌}
use mathlib.Core.Option.{Option, none, some}
use lib.ListN.{get_elem?}
use Rattle.rules.specs.Options.{or, or_else, then}
use Rattle.rules.specs.Good.{All, AllOption}

pub at_all : {A : Type 0} (P : A → Type 0) (xs : List A) (i : ℕ) → All P xs → AllOption P (get_elem? xs i)
at_all P [] i h = tt
at_all P (x ∷ xs) zero h = h.0
at_all P (x ∷ xs) (suc i) h = at_all P xs i h.1

pub then_all : {A B : Type 0} (P : A → Type 0) (Q : B → Type 0) (o : Option A) (f : A → Option B) → AllOption P o → ((a : A) → P a → AllOption Q (f a)) → AllOption Q (then o f)
unfolding then
then_all P Q none f h g = tt
then_all P Q (some a) f h g = g a h

-- where nothing need be known of the first
pub then_any : {A B : Type 0} (Q : B → Type 0) (o : Option A) (f : A → Option B) → ((a : A) → AllOption Q (f a)) → AllOption Q (then o f)
unfolding then
then_any Q none f g = tt
then_any Q (some a) f g = g a

pub or_all : {A : Type 0} (P : A → Type 0) (o : Option A) (d : A) → AllOption P o → P d → P (or o d)
unfolding or
or_all P none d h g = g
or_all P (some a) d h g = h

pub or_else_all : {A : Type 0} (P : A → Type 0) (o p : Option A) → AllOption P o → AllOption P p → AllOption P (or_else o p)
unfolding or_else
or_else_all P none p h g = g
or_else_all P (some a) p h g = h

pub map_all : {A : Type 0} {P Q : A → Type 0} → ((a : A) → P a → Q a) → (xs : List A) → All P xs → All Q xs
map_all f [] h = tt
map_all f (x ∷ xs) h = (f x h.0, map_all f xs h.1)

pub map_option : {A : Type 0} {P Q : A → Type 0} → ((a : A) → P a → Q a) → (o : Option A) → AllOption P o → AllOption Q o
map_option f none h = tt
map_option f (some a) h = f a h

-- of each, nothing
pub any_all : {A : Type 0} (xs : List A) → All (λ _. Unit {0}) xs
any_all [] = tt
any_all (x ∷ xs) = (tt, any_all xs)

pub any_option : {A : Type 0} (o : Option A) → AllOption (λ _. Unit {0}) o
any_option none = tt
any_option (some a) = tt
