-- What a look at a definition's row answers.
use Rattle.std.specs.Prelude.{ℕ, ◌≡◌, List, Option, None, IsSomeAnd}
use Rattle.std.proofs.Math.Option.{Option as Maybe, none, some}
use Rattle.rules.specs.Syntax.{TraitDef, ImplDef}
use Rattle.image_layout.specs.declared.Layout.{Layout}
use Rattle.image_layout.specs.Open.{pool_words}
use Rattle.pool_traits.specs.TraitAt.{TraitStands}
use Rattle.pool_definitions.specs.DefinitionAt.{ImplStands}

-- r is None where there is nothing; else that stands at the place that r has
abbrev pub Agrees : {A : Type 0} → (A → ℕ → ℕ → Type 0) → Maybe A → Option ℕ → Type 0
Agrees Q none r = r ≡ None
Agrees Q (some a) r = IsSomeAnd r (λ start. (n : ℕ) × Q a start n)

pub record Finds {A : Type 0} (Q : A → ℕ → ℕ → Type 0) (o : Maybe A) (r : Option ℕ) : Type 0 where
  pub is : Agrees Q o r

module _ (l : Layout) where
  abbrev pub ImplHere : ImplDef → ℕ → ℕ → Type 0
  ImplHere = ImplStands l.names.rows l.strings.rows (pool_words l)

  abbrev pub TraitHere : TraitDef → ℕ → ℕ → Type 0
  TraitHere = TraitStands l.names.rows (pool_words l)
