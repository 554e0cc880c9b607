-- Where functions stand in the pool.
use Rattle.std.specs.Prelude.{ℕ, List, [], ◌∷◌}
use Rattle.rules.specs.Syntax.{TraitFnDef, ImplFnDef}
use Rattle.image_words.specs.Gives.{Counted}
use Rattle.image_layout.specs.declared.Layout.{Layout}
use Rattle.image_layout.specs.Open.{pool_words}
use Rattle.pool_traits.specs.TraitAt.{TraitFunctionStands}
use Rattle.pool_definitions.specs.DefinitionAt.{FunctionStands}

-- each of some things at a place of its own, by Q, one by one
abbrev pub EachAt : {A : Type 0} → (A → ℕ → ℕ → Type 0) → List A → List ℕ → Type 0
EachAt Q [] [] = Unit {0}
EachAt Q [] (p ∷ ps) = ⊥
EachAt Q (x ∷ xs) [] = ⊥
EachAt Q (x ∷ xs) (p ∷ ps) = (m : ℕ) × Q x p m × EachAt Q xs ps

module _ (l : Layout) where
  -- an implementation's function, and all of them
  abbrev pub FunctionHere : ImplFnDef → ℕ → ℕ → Type 0
  FunctionHere = FunctionStands l.names.rows l.strings.rows (pool_words l)

  abbrev pub FunctionsHere : List ImplFnDef → ℕ → ℕ → Type 0
  FunctionsHere = Counted (pool_words l) 64 FunctionHere

  -- all of them, by a table of their places
  abbrev pub Placed : List ImplFnDef → List ℕ → Type 0
  Placed = EachAt FunctionHere

  -- a trait's function, and all of them
  abbrev pub AskedHere : TraitFnDef → ℕ → ℕ → Type 0
  AskedHere = TraitFunctionStands l.names.rows (pool_words l)

  abbrev pub AllAskedHere : List TraitFnDef → ℕ → ℕ → Type 0
  AllAskedHere = Counted (pool_words l) 64 AskedHere
