-- What a node has to resolve before it is resolved itself.
use Rattle.std.specs.Prelude.{length, ℕ, ◌+◌, ◌-◌, ◌<◌, ◌≤◌, ◌≡◌, true, false, List, get_or}
use Rattle.std.proofs.Math.Option.{none}
use Rattle.rules.specs.Syntax.{CompiledSchema}
use Rattle.rules.specs.Kinds.{type_kind}
use Rattle.rules.specs.Substitute.{lookup_alias}
use Rattle.rules.specs.declared.kinds.TypeKind.{TypeKind}
use Rattle.image_layout.specs.declared.Layout.{Layout}
use Rattle.image_layout.specs.Open.{Open, pool_words}
use Rattle.subst_names.specs.declared.generic.Alias.{Alias}
use Rattle.subst_names.specs.Aliases.{IsAlias}
use Rattle.subst_leaves.specs.declared.Resolved.{Resolved}
use Rattle.subst_leaves.specs.Nodes.{Substitutes}
use Rattle.subst_parts.specs.declared.Parts.{Parts}
use Rattle.subst_parts.specs.declared.Node.{Node}
use Rattle.subst_parts.specs.declared.Behind.{Behind}
use Rattle.subst_parts.specs.declared.Start.{Start}

module _ (l : Layout) (at : ℕ) where
  -- the kind of the code that stands there, and the name behind it
  abbrev pub kind_at : TypeKind
  kind_at = type_kind (get_or (pool_words l) at 0)

  abbrev pub name_at : ℕ
  name_at = get_or (pool_words l) (at + 1) 0

  -- what the schema says of this name, for each schema that the image holds
  abbrev pub Told : (CompiledSchema → Type 0) → Type 0
  Told P = (s : CompiledSchema) → Open l s → name_at < l.names.rows → P s

  module _ (left : ℕ) where
    -- there is a node and a visit for it
    abbrev pub Read : Type 0
    Read = (0 < left) × (at < length (pool_words l))

    -- a node of this kind has no part
    abbrev pub WholeAs : TypeKind → Type 0
    WholeAs TypeKind.Plain = Unit {0}
    WholeAs TypeKind.Sub = Unit {0}
    WholeAs TypeKind.Bits = Unit {0}
    WholeAs TypeKind.Named = Unit {0}
    WholeAs TypeKind.Qualified = Unit {0}
    WholeAs TypeKind.Generic = Told (λ s. lookup_alias s name_at ≡ none)
    WholeAs TypeKind.One = ⊥
    WholeAs TypeKind.Fixed = ⊥
    WholeAs TypeKind.Two = ⊥
    WholeAs TypeKind.Unknown = Unit {0}

    abbrev pub PartsAt : Parts → ℕ → Alias → Type 0
    PartsAt Parts.Whole first alias = (first ≡ 0) × (alias.some ≡ false) × (Read → WholeAs kind_at)
    PartsAt Parts.One first alias = (first ≡ at + 1) × (alias.some ≡ false) × Read × (kind_at ≡ TypeKind.One)
    PartsAt Parts.Fixed first alias = (first ≡ at + 1 + 1 + 1) × (alias.some ≡ false) × Read × (kind_at ≡ TypeKind.Fixed)
    PartsAt Parts.Two first alias = (first ≡ at + 1) × (alias.some ≡ false) × Read × (kind_at ≡ TypeKind.Two)
    PartsAt Parts.Alias first alias =
        (first ≡ at + 1 + 1) × (alias.some ≡ true) × Read × (kind_at ≡ TypeKind.Generic) × Told (λ s. IsAlias l.names.rows (pool_words l) alias (lookup_alias s name_at))

    abbrev pub NodeAt : Node → Type 0
    NodeAt r = PartsAt r.parts r.first r.alias

    -- the answer of a node that is whole
    abbrev pub ResolvesWhole : List ℕ → Resolved → Type 0
    ResolvesWhole params r = (Read → WholeAs kind_at) → Substitutes l at left params r

-- the expression as it is, behind n words
abbrev pub AsItIs : ℕ → ℕ → ℕ → Behind → Type 0
AsItIs at left n r = (r.again ≡ false) × (r.at ≡ at) × (r.left ≡ left) × (r.len ≡ n)

-- the first part of a node of two parts behind its code, with one visit less, where there is room for the code
abbrev pub BehindAs : Parts → ℕ → ℕ → ℕ → ℕ → Behind → Type 0
BehindAs Parts.Whole first at left n r = AsItIs at left n r
BehindAs Parts.One first at left n r = AsItIs at left n r
BehindAs Parts.Fixed first at left n r = AsItIs at left n r
BehindAs Parts.Two first at left n r = (n < 64 → (r.again ≡ true) × (r.at ≡ first) × (r.left ≡ left - 1) × (r.len ≡ n + 1)) × (64 ≤ n → AsItIs at left n r)
BehindAs Parts.Alias first at left n r = AsItIs at left n r

abbrev pub BeginsBehind : Node → ℕ → ℕ → ℕ → Behind → Type 0
BeginsBehind node at left n r = BehindAs node.parts node.first at left n r

-- an alias's argument with one visit less, and anything else as it is
abbrev pub StartsAt : Node → ℕ → ℕ → Start → Type 0
StartsAt node target left r =
    (node.alias.some ≡ true → (r.at ≡ node.first) × (r.left ≡ left - 1)) × (node.alias.some ≡ false → (r.at ≡ target) × (r.left ≡ left))
