-- A target's message by its row. Assumes nothing.
use Prim.Native.Nat.{ℕ, ◌+◌, ◌<◌}
use mathlib.Core.Path.{◌≡◌, refl, sym, ap, subst, ◌∙◌}
use mathlib.Core.Option.{Option as Maybe, some}
use lib.ListN.{length, get_or}
use Rattle.std.specs.Prelude.{Option, Some, None}
use Rattle.rules.specs.Syntax.{ResolvedType, TypeDef, CompiledSchema}
use Rattle.rules.specs.Options.{then}
use Rattle.rules.specs.Substitute.{get, number}
use Rattle.rules.specs.Project.{as_message}
use Rattle.image_words.proofs.Gives.{of}
use Rattle.rules.specs.declared.kinds.DefinitionKind.{DefinitionKind}
use Rattle.image_layout.specs.declared.Layout.{Layout}
use Rattle.image_layout.specs.declared.DefinitionRow.{DefinitionRow}
use Rattle.image_layout.specs.Rows.{IsDefinitionRow}
use Rattle.image_layout.specs.Open.{Open, pool_words}
use Rattle.pool_types.specs.TypeAt.{TypeStands}
use Rattle.pool_types.proofs.TypeAt.{shape_at}
use Rattle.pool_definitions.proofs.DefinitionAt.{message_gives}
use Rattle.subst_names.proofs.Codes.{named_type, other_type}
use Rattle.impl_rows.specs.Found.{Agrees, Finds}
use Rattle.impl_rows.proofs.FindRows.{Alike, by_row}
use Rattle.impl_target.specs.Targets.{MessageHere}

module _ {l : Layout} {s : CompiledSchema} (o : Open l s) where
  -- a definition's row
  module _ (d : ℕ) (r : DefinitionRow) (row : IsDefinitionRow l d r) where
    finds_message : r.kind ≡ DefinitionKind.Message → Finds (MessageHere l) (then (get s d) as_message) (Some r.start)
    unfolding as_message
    finds_message e = by_row o d r row (MessageHere l) as_message _ go (λ k. absurd cc)
      where
        go : (t : TypeDef) → Alike o d r row t → Agrees (MessageHere l) (as_message t) (Some r.start)
        go TypeDef.other k = absurd cc
        go (TypeDef.message m) k = (k.1.next, (of (message_gives l.names.rows (pool_words l) r.start) k.1.read).1)
        go (TypeDef.generic_alias a) k = absurd cc
        go (TypeDef.trait t) k = absurd cc
        go (TypeDef.implementation i) k = absurd cc

    finds_none : (r.kind ≡ DefinitionKind.Message → ⊥) → Finds (MessageHere l) (then (get s d) as_message) None
    unfolding as_message
    finds_none n = by_row o d r row (MessageHere l) as_message _ go (λ k. refl)
      where
        go : (t : TypeDef) → Alike o d r row t → Agrees (MessageHere l) (as_message t) None
        go TypeDef.other k = refl
        go (TypeDef.message m) k = absurd (n k.0)
        go (TypeDef.generic_alias a) k = refl
        go (TypeDef.trait t) k = refl
        go (TypeDef.implementation i) k = refl

  -- what the type at `at` comes to
  abbrev pub ComesOf : ResolvedType → Option ℕ → Type 0
  ComesOf t = Finds (MessageHere l) (then (number t) (λ d. then (get s d) as_message))

  abbrev Under : Option ℕ → Maybe ℕ → Type 0
  Under r n = Finds (MessageHere l) (then n (λ d. then (get s d) as_message)) r

  module _ (t : ResolvedType) (at n : ℕ) (q : TypeStands l.names.rows (pool_words l) t at n) where
    -- it is not Named
    pub not_named : (get_or (pool_words l) at 0 ≡ 48 → ⊥) → ComesOf t None
    unfolding then
    not_named h = subst (Under None) (sym (other_type l.names.rows (pool_words l) at n t q.words_at h)) (record { is = refl })

    -- it is Named, to the row of a message or of another definition
    module _ (h : get_or (pool_words l) at 0 ≡ 48) {k d : ℕ} (behind : at < length (pool_words l) → k ≡ at + 1) (e : d ≡ get_or (pool_words l) k 0) (r : DefinitionRow) (row : IsDefinitionRow l d r) where
      under : {f : Option ℕ} → Finds (MessageHere l) (then (get s d) as_message) f → ComesOf t f
      unfolding then
      under {f} g =
          let p = behind (shape_at l.names.rows (pool_words l) t at n q.parts).inside in
          subst (Under f) (ap (λ (j : ℕ). some j) (e ∙ ap (λ (i : ℕ). get_or (pool_words l) i 0) p) ∙ sym (named_type l.names.rows (pool_words l) at n t q.words_at q.good h)) g

      pub to_message : r.kind ≡ DefinitionKind.Message → ComesOf t (Some r.start)
      to_message x = under (finds_message d r row x)

      pub to_another : (r.kind ≡ DefinitionKind.Message → ⊥) → ComesOf t None
      to_another x = under (finds_none d r row x)
