-- What a look at a row found. Assumes nothing.
use Prim.Native.Nat.{ℕ}
use mathlib.Core.Path.{◌≡◌, refl, subst}
use mathlib.Core.Option.{Option as Maybe, none, some}
use Rattle.std.specs.Prelude.{Option, Some, None}
use Rattle.rules.specs.Syntax.{TraitDef, CompiledSchema}
use Rattle.rules.specs.Options.{then}
use Rattle.rules.specs.Substitute.{get}
use Rattle.rules.specs.Signatures.{as_trait}
use Rattle.impl_rows.specs.Found.{Agrees, Finds}

-- what was found
pub record Has {A : Type 0} (Q : A → ℕ → ℕ → Type 0) (o : Maybe A) (start : ℕ) : Type 0 where
  pub a : A
  pub is : o ≡ some a
  pub behind : ℕ
  pub stands : Q a start behind

has_o : {A : Type 0} (Q : A → ℕ → ℕ → Type 0) (o : Maybe A) (start : ℕ) → Agrees Q o (Some start) → Has Q o start
has_o Q none start h = absurd cc
has_o Q (some a) start h = record { a = a; is = refl; behind = h.0; stands = h.1 }

lacks_o : {A : Type 0} (Q : A → ℕ → ℕ → Type 0) (o : Maybe A) → Agrees Q o None → o ≡ none
lacks_o Q none h = refl
lacks_o Q (some a) h = absurd h

module _ {A : Type 0} {Q : A → ℕ → ℕ → Type 0} {o : Maybe A} where
  pub has : {start : ℕ} → Finds Q o (Some start) → Has Q o start
  has {start} f = has_o Q o start f.is

  pub lacks : Finds Q o None → o ≡ none
  lacks f = lacks_o Q o f.is

-- a trait at a number that is the same
pub same_trait : (s : CompiledSchema) {Q : TraitDef → ℕ → ℕ → Type 0} {r : Option ℕ} {n m : ℕ} → n ≡ m → Finds Q (then (get s n) as_trait) r → Finds Q (then (get s m) as_trait) r
same_trait s {Q} {r} e f = subst (λ (k : ℕ). Finds Q (then (get s k) as_trait) r) e f
