-- What a node's parts are, by its kind, and what a node that is whole comes to. Assumes nothing.
use Prim.Native.Nat.{ℕ, ◌+◌, ◌-◌, ◌<◌}
use native.Mathlib.Omega.{arith}
use mathlib.Core.Path.{◌≡◌, refl, sym, ap, subst, ◌∙◌}
use mathlib.Core.Bool.{false}
use mathlib.Core.List.{List}
use lib.ListN.{length}
use mathlib.Core.Option.{none}
use Rattle.rules.specs.Syntax.{CompiledSchema}
use Rattle.rules.specs.Substitute.{lookup_alias}
use Rattle.rules.specs.declared.kinds.TypeKind.{TypeKind}
use Rattle.laws.specs.Visits.{plain_depth}
use Rattle.image_layout.specs.declared.Layout.{Layout}
use Rattle.image_layout.specs.Open.{Open, pool_words}
use Rattle.subst_names.specs.declared.generic.Alias.{Alias}
use Rattle.subst_names.specs.Aliases.{IsAlias}
use Rattle.subst_leaves.specs.declared.Resolved.{Resolved}
use Rattle.subst_leaves.specs.Nodes.{Poisons}
use Rattle.subst_leaves.proofs.Parts.{generic_stands}
use Rattle.subst_leaves.proofs.Steps.{says_as}
use Rattle.subst_parts.specs.declared.Parts.{Parts}
use Rattle.subst_parts.specs.declared.Behind.{Behind}
use Rattle.subst_parts.specs.declared.Node.{Node}
use Rattle.subst_parts.specs.Parts.{kind_at, name_at, Told, Read, WholeAs, PartsAt, NodeAt, BehindAs, BeginsBehind, ResolvesWhole}
use Rattle.subst_parts.proofs.Nodes.{of_generic}
use Rattle.subst_parts.proofs.Poison.{is_poison, no_alias}

module _ (l : Layout) (at left : ℕ) where
  pub whole_at : (r : Node) → (r.parts ≡ Parts.Whole) × (r.first ≡ 0) × (r.alias.some ≡ false) → (Read l at left → WholeAs l at left (kind_at l at)) → NodeAt l at left r
  whole_at r h w = subst (λ (p : Parts). PartsAt l at left p r.first r.alias) (sym h.0) (h.1, h.2, w)

  pub whole_as : {k : TypeKind} → kind_at l at ≡ k → WholeAs l at left k → Read l at left → WholeAs l at left (kind_at l at)
  whole_as e w _ = subst (WholeAs l at left) (sym e) w

  -- a kind that has no part
  pub other_kind : (k : TypeKind) → (k ≡ TypeKind.Generic → ⊥) → (k ≡ TypeKind.One → ⊥) → (k ≡ TypeKind.Fixed → ⊥) → (k ≡ TypeKind.Two → ⊥) → WholeAs l at left k
  other_kind TypeKind.Plain g o f t = tt
  other_kind TypeKind.Sub g o f t = tt
  other_kind TypeKind.Bits g o f t = tt
  other_kind TypeKind.Named g o f t = tt
  other_kind TypeKind.Qualified g o f t = tt
  other_kind TypeKind.Generic g o f t = absurd (g refl)
  other_kind TypeKind.One g o f t = absurd (o refl)
  other_kind TypeKind.Fixed g o f t = absurd (f refl)
  other_kind TypeKind.Two g o f t = absurd (t refl)
  other_kind TypeKind.Unknown g o f t = tt

  -- what is looked up of a word that is the name
  module _ (r : Alias) (x : ℕ) (is : x ≡ name_at l at) (h : (s : CompiledSchema) → Open l s → x < l.names.rows → IsAlias l.names.rows (pool_words l) r (lookup_alias s x)) where
    pub told : Told l at (λ s. IsAlias l.names.rows (pool_words l) r (lookup_alias s (name_at l at)))
    told = subst (λ (y : ℕ). (s : CompiledSchema) → Open l s → y < l.names.rows → IsAlias l.names.rows (pool_words l) r (lookup_alias s y)) is h

    pub told_none : r.some ≡ false → WholeAs l at left TypeKind.Generic
    told_none e s o b = no_alias l.names.rows (pool_words l) r (lookup_alias s (name_at l at)) (told s o b) e

  -- what is so of a whole node that is read, by its kind
  pub as_kind : {k : TypeKind} → (left ≡ 0 → ⊥) → at < length (pool_words l) → kind_at l at ≡ k → (Read l at left → WholeAs l at left (kind_at l at)) → WholeAs l at left k
  as_kind z b is w = subst (WholeAs l at left) is (w (omega arith, b))

  pub of_poison : (params : List ℕ) (r : Resolved) → (left ≡ 0 → ⊥) → at < length (pool_words l) → kind_at l at ≡ TypeKind.Generic → Poisons l (at + 1 + 1) (left - 1) r → ResolvesWhole l at left params r
  of_poison params r z b is h w =
      of_generic l at left params r z is (λ s o f le ps v x y n e.
      let p = generic_stands x y e in
      let none_is : lookup_alias s (name_at l at) ≡ none = as_kind z b is w s o (omega (arith, p.name, p.below)) in
      says_as (is_poison s (plain_depth s f) ps x y (ap (lookup_alias s) (sym p.name) ∙ none_is)) (h y n p.part))

-- where an expression is begun behind words, by the node's parts
pub behind_as : (node : Node) (at left n : ℕ) (r : Behind) (p : Parts) → node.parts ≡ p → BehindAs p node.first at left n r → BeginsBehind node at left n r
behind_as node at left n r p e h = subst (λ (p : Parts). BehindAs p node.first at left n r) (sym e) h
