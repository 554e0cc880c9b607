-- Laws: the nodes of types and type expressions, by the kind of their code: their own words and their parts.
use Prim.Native.Nat.{ℕ, ◌+◌, ◌<◌}
use mathlib.Core.Path.{◌≡◌, sym, ap, subst, ◌∙◌}
use mathlib.Core.List.{List, [], ◌∷◌}
use native.Mathlib.Omega.{arith}
use lib.ListN.{length, get_or}
use Rattle.rules.specs.Syntax.{ResolvedType, TypeExpr}
use Rattle.rules.specs.Kinds.{type_kind}
use Rattle.rules.specs.declared.kinds.TypeKind.{TypeKind}
use Rattle.image_words.specs.Gives.{Row, BelowAt}
use Rattle.pool_type_exprs.specs.TypeExprAt.{TypeExprAt}
use Rattle.pool_type_exprs.proofs.TypeExprAt.{expr_shape, expr_shape_at}
use Rattle.skip_types.specs.declared.Node.{Node}
use Rattle.skip_types.specs.Pending.{Pending}
use Rattle.skip_types.proofs.Pending.{none_left, one_left, two_left, moved}
use Rattle.skip_types.specs.TypeNodes.{type_node}

-- a row of words is as long as their number
words_row : (ws : List ℕ) (limit : ℕ) (xs : List ℕ) (at n : ℕ) → Row (BelowAt ws limit) xs at n → n ≡ at + length xs
words_row ws limit [] at n r = omega arith
words_row ws limit (x ∷ xs) at n r = let e = words_row ws limit xs r.0 n r.2 in omega (arith, r.1.2)

module _ (names : ℕ) (ws : List ℕ) where
  -- the parts of what stands there, by the shape of its code
  abbrev Parts : TypeKind → ℕ → ℕ → Type 0
  Parts k at n = Pending (TypeExprAt names ws) (type_node k (get_or ws (at + 1) 0)).parts (at + (type_node k (get_or ws (at + 1) 0)).words) n

  parts_of : (e : TypeExpr) (at n : ℕ) → TypeExprAt names ws e at n → Parts (expr_shape e) at n
  parts_of (TypeExpr.leaf (ResolvedType.plain c)) at n h = none_left h.2
  parts_of (TypeExpr.leaf (ResolvedType.sub s b)) at n h = none_left (omega (arith, h.6))
  parts_of (TypeExpr.leaf (ResolvedType.bits ns)) at n h = none_left (omega (arith, words_row ws names ns (at + 1 + 1) n h.1.2, h.1.0.is))
  parts_of (TypeExpr.leaf (ResolvedType.named d)) at n h = none_left (omega (arith, h.2))
  parts_of (TypeExpr.leaf (ResolvedType.one c t)) at n h = one_left (TypeExpr.leaf t) h.2
  parts_of (TypeExpr.leaf (ResolvedType.fixed low high t)) at n h = moved _ (omega arith) (one_left (TypeExpr.leaf t) h.2)
  parts_of (TypeExpr.leaf (ResolvedType.two c t u)) at n h = two_left (TypeExpr.leaf t) (TypeExpr.leaf u) h.2 h.3 h.4
  parts_of (TypeExpr.named x) at n h = none_left (omega (arith, h.3))
  parts_of (TypeExpr.qualified s x) at n h = none_left (omega (arith, h.5))
  parts_of (TypeExpr.generic x a) at n h = moved _ (omega arith) (one_left a h.3)
  parts_of (TypeExpr.one c t) at n h = one_left t h.2
  parts_of (TypeExpr.fixed low high t) at n h = moved _ (omega arith) (one_left t h.2)
  parts_of (TypeExpr.two c t u) at n h = two_left t u h.2 h.3 h.4

  -- as the code has them: the kind of the code, and the word behind it
  pub type_parts : {k : TypeKind} {w : ℕ} {node : Node} (at : ℕ) → k ≡ type_kind (get_or ws at 0) → w ≡ get_or ws (at + 1) 0 → node ≡ type_node k w
      → {z : ℕ} → z ≡ at + node.words → (e : TypeExpr) (n : ℕ) → TypeExprAt names ws e at n → Pending (TypeExprAt names ws) node.parts z n
  type_parts {k} {w} {node} at q v i {z} j e n h =
      let s : type_node (expr_shape e) (get_or ws (at + 1) 0) ≡ node = ap (λ (y : TypeKind). type_node y (get_or ws (at + 1) 0)) (sym (expr_shape_at names ws e at n h).kind ∙ sym q) ∙ ap (type_node k) (sym v) ∙ sym i in
      moved z j (subst (λ (y : Node). Pending (TypeExprAt names ws) y.parts (at + y.words) n) s (parts_of e at n h))

  -- it stands inside
  pub type_inside : (e : TypeExpr) (at n : ℕ) → TypeExprAt names ws e at n → at < length ws
  type_inside e at n h = (expr_shape_at names ws e at n h).inside
