-- Laws: which resolved type stands where among some words: by recursion on the type, so that its parts come out by projection.
use Prim.Native.Nat.{ℕ, zero, suc, ◌+◌}
use mathlib.Core.Path.{◌≡◌, refl, ap}
use mathlib.Core.List.{List}
use lib.ListN.{get_or}
use Rattle.rules.specs.Syntax.{ResolvedType}
use Rattle.rules.specs.Reader.{Reader, ◌>>=◌}
use Rattle.rules.specs.Kinds.{type_kind}
use Rattle.rules.specs.ReadTypes.{sub_byte, wide, bits_inline, type_node, type_tree, resolved_type}
use Rattle.rules.specs.declared.kinds.TypeKind.{TypeKind}
use Rattle.rules.proofs.Types.{within_true, type_exact}
use Rattle.image_words.proofs.Gives.{Gives, then, given, failed, so_then, rule_then, word_then, assoc, give_then, below_then, below_gives, many_gives, sized_gives}
use Rattle.image_words.specs.Gives.{BelowAt}
use Rattle.image_words.proofs.Stands.{held_gives}
use Rattle.pool_types.specs.TypeAt.{Node, WideAt, TypeAt, TypeStands}

-- the kind of a type's code
abbrev pub shape : ResolvedType → TypeKind
shape (ResolvedType.plain c) = TypeKind.Plain
shape (ResolvedType.sub s b) = TypeKind.Sub
shape (ResolvedType.bits ns) = TypeKind.Bits
shape (ResolvedType.named d) = TypeKind.Named
shape (ResolvedType.one c t) = TypeKind.One
shape (ResolvedType.fixed low high t) = TypeKind.Fixed
shape (ResolvedType.two c t u) = TypeKind.Two

pub wide_then : {B : Type 0} (f : ℕ × ℕ → Reader B) {ws : List ℕ} {at : ℕ} {P : B → ℕ → Type 0}
    → ((low high : ℕ) → WideAt ws low high at → Gives (f (low, high)) ws (at + 1 + 1) P) → Gives (wide >>= f) ws at P
unfolding wide
wide_then f h = assoc _ _ _ (word_then (λ low i. assoc _ _ _ (word_then (λ high j. give_then _ _ (h low high (i, j))))))

module _ (names : ℕ) (ws : List ℕ) where
  -- the word at a type's place tells its shape
  pub shape_at : (t : ResolvedType) (at n : ℕ) → TypeAt names ws t at n → Node ws at (shape t)
  shape_at (ResolvedType.plain c) at n h = h.0
  shape_at (ResolvedType.sub s b) at n h = h.0
  shape_at (ResolvedType.bits ns) at n h = h.0
  shape_at (ResolvedType.named d) at n h = h.0
  shape_at (ResolvedType.one c t) at n h = h.0
  shape_at (ResolvedType.fixed low high t) at n h = h.0
  shape_at (ResolvedType.two c t u) at n h = h.0

  pub sub_gives : (at : ℕ) → Node ws at TypeKind.Sub → Gives sub_byte ws (at + 1) (λ t n. TypeAt names ws t at n)
  unfolding sub_byte
  sub_gives at i = below_then (λ s j l. word_then (λ b k. rule_then _ _ (λ e. let w = within_true 1 64 b e in given _ (i, j, l, k, w.0, w.1, refl))))

  pub bits_gives : (at : ℕ) → Node ws at TypeKind.Bits → Gives (bits_inline names) ws (at + 1) (λ t n. TypeAt names ws t at n)
  unfolding bits_inline
  bits_gives at i = then (many_gives (BelowAt ws names) (below_gives names ws) 62 (at + 1)) (λ ns m x. given _ (i, x))

  module _ (d : ℕ) (part : (at : ℕ) → Gives (type_tree names d) ws at (λ t n. TypeAt names ws t at n)) (at : ℕ) where
    node_gives : (k : TypeKind) (c : ℕ) → Node ws at k → get_or ws at 0 ≡ c → Gives (type_node names (type_tree names d) k c) ws (at + 1) (λ t n. TypeAt names ws t at n)
    unfolding type_node
    node_gives TypeKind.Plain c i e = given _ (i, e, refl)
    node_gives TypeKind.Sub c i e = sub_gives at i
    node_gives TypeKind.Bits c i e = bits_gives at i
    node_gives TypeKind.Named c i e = word_then (λ x j. given _ (i, j, refl))
    node_gives TypeKind.Qualified c i e = failed
    node_gives TypeKind.Generic c i e = failed
    node_gives TypeKind.One c i e = then (part (at + 1)) (λ t n a. given _ (i, e, a))
    node_gives TypeKind.Fixed c i e = wide_then _ (λ low high w. then (part (at + 1 + 1 + 1)) (λ t n a. given _ (i, w, a)))
    node_gives TypeKind.Two c i e = then (part (at + 1)) (λ t m a. then (part m) (λ u n b. given _ (i, e, m, a, b)))
    node_gives TypeKind.Unknown c i e = failed

  pub tree_gives : (d at : ℕ) → Gives (type_tree names d) ws at (λ t n. TypeAt names ws t at n)
  unfolding type_tree
  tree_gives zero at = failed
  tree_gives (suc d) at = word_then (λ w i. node_gives d (tree_gives d) at (type_kind w) w (record { inside = i.inside; kind = ap type_kind i.is }) i.is)

  pub type_gives : (at : ℕ) → Gives (resolved_type names) ws at (λ t n. TypeStands names ws t at n)
  unfolding resolved_type
  type_gives at = held_gives (TypeAt names ws) (type_exact names) ws at (so_then (sized_gives (tree_gives 64 at)) (λ t n h. h.0))
