-- A definition's row by its kind. Assumes nothing.
use Prim.Native.Nat.{ℕ, ◌<◌, ◌≤◌}
use mathlib.Core.Path.{◌≡◌, refl, sym, subst}
use mathlib.Core.List.{List}
use mathlib.Core.Option.{Option as Maybe}
use native.Mathlib.Omega.{arith}
use native.Mathlib.Decide.{dec_le}
use Rattle.std.specs.Prelude.{Option, Some, None}
use Rattle.rules.specs.Syntax.{TypeDef, CompiledSchema}
use Rattle.rules.specs.Options.{then}
use Rattle.rules.specs.Substitute.{get}
use Rattle.rules.specs.Signatures.{as_trait}
use Rattle.rules.specs.Project.{as_implementation}
use Rattle.rules.specs.declared.kinds.DefinitionKind.{DefinitionKind}
use Rattle.image_words.proofs.Gives.{of}
use Rattle.image_layout.specs.declared.Layout.{Layout}
use Rattle.image_layout.specs.declared.DefinitionRow.{DefinitionRow}
use Rattle.image_layout.specs.Rows.{IsDefinitionRow}
use Rattle.image_layout.specs.Open.{Open, DefinitionStands, pool_words}
use Rattle.pool_traits.proofs.TraitAt.{trait_gives}
use Rattle.pool_definitions.proofs.DefinitionAt.{implementation_gives}
use Rattle.subst_names.proofs.NamesLaws.{there, past}
use Rattle.impl_rows.specs.Found.{Agrees, Finds, ImplHere, TraitHere}

module _ {l : Layout} {s : CompiledSchema} (o : Open l s) (d : ℕ) (r : DefinitionRow) (row : IsDefinitionRow l d r) where
  abbrev pub Alike : TypeDef → Type 0
  Alike t = DefinitionStands l.names.rows l.strings.rows (pool_words l) r.kind r.start t

  -- by the definition that stands there, if one does
  pub by_row : {A : Type 0} (Q : A → ℕ → ℕ → Type 0) (is : TypeDef → Maybe A) (f : Option ℕ) → ((t : TypeDef) → Alike t → Agrees Q (is t) f) → (r.kind ≡ DefinitionKind.Unknown → f ≡ None)
      → Finds Q (then (get s d) is) f
  unfolding then
  by_row {A} Q is f each none_is = go (dec_le l.definitions.rows d)
    where
      go : Dec (l.definitions.rows ≤ d) → Finds Q (then (get s d) is) f
      go (yes h) = record { is = subst (λ (x : Maybe TypeDef). Agrees Q (then x is) f) (sym (past s.definitions d (omega (arith, o.definitions)))) (none_is (row.past h)) }
      go (no h) =
          let e = there s.definitions d (omega (arith, o.definitions)) in
          let below : d < l.definitions.rows = omega arith in
          let k : Alike e.0 = rw (row.kind below, row.start below) (o.definition d e.0 e.1) in
          record { is = subst (λ (x : Maybe TypeDef). Agrees Q (then x is) f) (sym e.1) (each e.0 k) }

  pub is_impl : r.kind ≡ DefinitionKind.Implementation → Finds (ImplHere l) (then (get s d) as_implementation) (Some r.start)
  unfolding as_implementation
  is_impl e = by_row (ImplHere l) as_implementation _ go (λ k. absurd cc)
    where
      go : (t : TypeDef) → Alike t → Agrees (ImplHere l) (as_implementation t) (Some r.start)
      go TypeDef.other k = absurd cc
      go (TypeDef.message m) k = absurd cc
      go (TypeDef.generic_alias a) k = absurd cc
      go (TypeDef.trait t) k = absurd cc
      go (TypeDef.implementation i) k = (k.1.next, (of (implementation_gives l.names.rows l.strings.rows (pool_words l) r.start) k.1.read).1)

  pub no_impl : (r.kind ≡ DefinitionKind.Implementation → ⊥) → Finds (ImplHere l) (then (get s d) as_implementation) None
  unfolding as_implementation
  no_impl n = by_row (ImplHere l) as_implementation _ go (λ k. refl)
    where
      go : (t : TypeDef) → Alike t → Agrees (ImplHere l) (as_implementation t) None
      go TypeDef.other k = refl
      go (TypeDef.message m) k = refl
      go (TypeDef.generic_alias a) k = refl
      go (TypeDef.trait t) k = refl
      go (TypeDef.implementation i) k = absurd (n k.0)

  pub is_trait : r.kind ≡ DefinitionKind.Trait → Finds (TraitHere l) (then (get s d) as_trait) (Some r.start)
  unfolding as_trait
  is_trait e = by_row (TraitHere l) as_trait _ go (λ k. absurd cc)
    where
      go : (t : TypeDef) → Alike t → Agrees (TraitHere l) (as_trait t) (Some r.start)
      go TypeDef.other k = absurd cc
      go (TypeDef.message m) k = absurd cc
      go (TypeDef.generic_alias a) k = absurd cc
      go (TypeDef.trait t) k = (k.1.next, (of (trait_gives l.names.rows (pool_words l) r.start) k.1.read).1)
      go (TypeDef.implementation i) k = absurd cc

  pub no_trait : (r.kind ≡ DefinitionKind.Trait → ⊥) → Finds (TraitHere l) (then (get s d) as_trait) None
  unfolding as_trait
  no_trait n = by_row (TraitHere l) as_trait _ go (λ k. refl)
    where
      go : (t : TypeDef) → Alike t → Agrees (TraitHere l) (as_trait t) None
      go TypeDef.other k = refl
      go (TypeDef.message m) k = refl
      go (TypeDef.generic_alias a) k = refl
      go (TypeDef.trait t) k = absurd (n k.0)
      go (TypeDef.implementation i) k = refl
