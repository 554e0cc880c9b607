-- What a held optional type is, by its flag; a held type is one type. Assumes nothing.
use Prim.Native.Nat.{ℕ}
use mathlib.Core.Path.{◌≡◌, refl, sym, ◌∙◌}
use mathlib.Core.Bool.{true, false, false≢true}
use mathlib.Core.Option.{Option, none, some}
use Rattle.rules.specs.Syntax.{ResolvedType}
use Rattle.type_words.specs.declared.MaybeType.{MaybeType}
use Rattle.type_words.specs.Holds.{Holds, MaybeHolds}

pub record Some (names : ℕ) (m : MaybeType) (o : Option ResolvedType) : Type 0 where
  pub value : ResolvedType
  pub is : o ≡ some value
  pub holds : Holds names m.ty value

pub some_of : {names : ℕ} {m : MaybeType} (o : Option ResolvedType) → MaybeHolds names m o → m.some ≡ true → Some names m o
some_of none h e = absurd (false≢true (sym h ∙ e))
some_of (some t) h e = record { value = t; is = refl; holds = h.1 }

pub none_of : (names : ℕ) (m : MaybeType) (o : Option ResolvedType) → MaybeHolds names m o → m.some ≡ false → o ≡ none
none_of names m none h e = refl
none_of names m (some t) h e = absurd (false≢true (sym e ∙ h.0))
