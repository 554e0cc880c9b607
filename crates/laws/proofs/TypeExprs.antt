-- Type expressions in the pool: a run reads back to its expression and nothing else does.
use Prim.Native.Nat.{ℕ, zero, suc, ◌≤◌}
use mathlib.Core.Path.{◌≡◌, refl, sym, ap, ap₂, subst}
use mathlib.Core.List.{List, [], ◌∷◌, ◌++◌}
use native.Mathlib.Omega.{arith}
use lib.ListN.{length, length-append}
use Rattle.rules.specs.Syntax.{ResolvedType, TypeExpr, run, expr_run}
use Rattle.rules.specs.Reader.{Reader}
use Rattle.rules.specs.Kinds.{type_kind}
use Rattle.rules.specs.ReadTypes.{bits_inline, type_expr_node, type_expr_tree, type_expr}
use Rattle.rules.specs.declared.kinds.TypeKind.{TypeKind}
use Rattle.rules.specs.Good.{Good, IsLeaf, GoodExpr}
use Rattle.rules.proofs.Depth.{depth_expr}
use Rattle.rules.proofs.Codes.{TypeCode, type_code}
use Rattle.rules.specs.Exact.{Reads, Gives, Exact, Run}
use Rattle.rules.proofs.ReadBack.{give_reads, then_reads, last_reads, word_reads, below_then}
use Rattle.rules.proofs.Gives as gives
use Rattle.rules.proofs.Exact.{sized_exact}
use Rattle.rules.proofs.Types.{sub_reads, wide_then, sub_gives, wide_gives, bits_exact}
use Rattle.laws.specs.TypeExprs.{StoredExpr}

-- a good expression, so deep
pub record DeepExpr (names f : ℕ) (e : TypeExpr) : Type 0 where
  pub good : GoodExpr names e
  pub deep : depth_expr e ≤ f

leaf_run : (t : ResolvedType) → IsLeaf t → 1 ≤ length (run t)
unfolding run
leaf_run (ResolvedType.plain c) l = omega arith
leaf_run (ResolvedType.sub s n) l = omega arith
leaf_run (ResolvedType.bits ns) l = omega arith
leaf_run (ResolvedType.named n) l = absurd l
leaf_run (ResolvedType.one c t) l = absurd l
leaf_run (ResolvedType.fixed low high t) l = absurd l
leaf_run (ResolvedType.two c t u) l = absurd l

-- an expression is at most as deep as its run is long
pub depth_expr_run : (names : ℕ) (e : TypeExpr) → GoodExpr names e → depth_expr e ≤ length (expr_run e)
unfolding expr_run
depth_expr_run names (TypeExpr.leaf t) g = leaf_run t g.0
depth_expr_run names (TypeExpr.named x) g = omega arith
depth_expr_run names (TypeExpr.qualified s x) g = omega arith
depth_expr_run names (TypeExpr.generic x a) g = omega (arith, depth_expr_run names a g.1)
depth_expr_run names (TypeExpr.one c t) g = omega (arith, depth_expr_run names t g.1)
depth_expr_run names (TypeExpr.fixed low high t) g = omega (arith, depth_expr_run names t g)
depth_expr_run names (TypeExpr.two c t u) g = omega (arith, depth_expr_run names t g.1, depth_expr_run names u g.2, length-append (expr_run t) (expr_run u))

module _ (names : ℕ) where
  at_kind : (f : ℕ) {c : ℕ} (k : TypeKind) {ws : List ℕ} {e : TypeExpr} → type_kind c ≡ k → Reads (type_expr_node names (type_expr_tree names f) k c) ws e
      → Reads (type_expr_tree names (suc f)) (c ∷ ws) e
  unfolding type_expr_tree
  at_kind f {c} k {ws} {e} q h = word_reads _ (subst (λ (k : TypeKind). Reads (type_expr_node names (type_expr_tree names f) k c) ws e) (sym q) h)

  leaf_reads : (t : ResolvedType) (f : ℕ) → IsLeaf t → Good names t → 1 ≤ f → Reads (type_expr_tree names f) (run t) (TypeExpr.leaf t)
  unfolding run type_expr_node bits_inline
  leaf_reads t zero l g d = absurd (omega arith)
  leaf_reads (ResolvedType.plain c) (suc f) l g d = at_kind f TypeKind.Plain g (give_reads _)
  leaf_reads (ResolvedType.sub s n) (suc f) l g d = at_kind f TypeKind.Sub (unfold type_kind in refl) (last_reads _ (sub_reads g.0 g.1 g.2))
  leaf_reads (ResolvedType.bits ns) (suc f) l g d = at_kind f TypeKind.Bits (unfold type_kind in refl) (last_reads _ (last_reads _ ((bits_exact names).reads ns g)))
  leaf_reads (ResolvedType.named n) (suc f) l g d = absurd l
  leaf_reads (ResolvedType.one c t) (suc f) l g d = absurd l
  leaf_reads (ResolvedType.fixed low high t) (suc f) l g d = absurd l
  leaf_reads (ResolvedType.two c t u) (suc f) l g d = absurd l

  pub expr_tree_reads : (e : TypeExpr) (f : ℕ) → GoodExpr names e → depth_expr e ≤ f → Reads (type_expr_tree names f) (expr_run e) e
  unfolding expr_run type_expr_node
  expr_tree_reads (TypeExpr.leaf t) f g d = leaf_reads t f g.0 g.1 d
  expr_tree_reads (TypeExpr.named x) zero g d = absurd (omega arith)
  expr_tree_reads (TypeExpr.named x) (suc f) g d = at_kind f TypeKind.Named (unfold type_kind in refl) (below_then _ g (give_reads _))
  expr_tree_reads (TypeExpr.qualified s x) zero g d = absurd (omega arith)
  expr_tree_reads (TypeExpr.qualified s x) (suc f) g d = at_kind f TypeKind.Qualified (unfold type_kind in refl) (below_then _ g.0 (below_then _ g.1 (give_reads _)))
  expr_tree_reads (TypeExpr.generic x a) zero g d = absurd (omega arith)
  expr_tree_reads (TypeExpr.generic x a) (suc f) g d =
      at_kind f TypeKind.Generic (unfold type_kind in refl) (below_then _ g.0 (last_reads _ (expr_tree_reads a f g.1 (omega arith))))
  expr_tree_reads (TypeExpr.one c t) zero g d = absurd (omega arith)
  expr_tree_reads (TypeExpr.one c t) (suc f) g d = at_kind f TypeKind.One g.0 (last_reads _ (expr_tree_reads t f g.1 (omega arith)))
  expr_tree_reads (TypeExpr.fixed low high t) zero g d = absurd (omega arith)
  expr_tree_reads (TypeExpr.fixed low high t) (suc f) g d =
      at_kind f TypeKind.Fixed (unfold type_kind in refl) (wide_then _ (last_reads _ (expr_tree_reads t f g (omega arith))))
  expr_tree_reads (TypeExpr.two c t u) zero g d = absurd (omega arith)
  expr_tree_reads (TypeExpr.two c t u) (suc f) g d =
      at_kind f TypeKind.Two g.0 (then_reads _ (expr_tree_reads t f g.1 (omega arith)) (last_reads _ (expr_tree_reads u f g.2 (omega arith))))

  -- what a node gives, with its code in front
  node_gives : (f : ℕ) (part : Reader TypeExpr) → Gives part (Run expr_run (DeepExpr names f)) → (c : ℕ) (k : TypeKind) → type_kind c ≡ k → TypeCode k c
      → Gives (type_expr_node names part k c) (λ e ws. Run expr_run (DeepExpr names (suc f)) e (c ∷ ws))
  unfolding expr_run run type_expr_node bits_inline
  node_gives f part ih c TypeKind.Plain k q = gives.give_gives _ _ (record { is = refl; good = record { good = (tt, k); deep = omega arith } })
  node_gives f part ih c TypeKind.Sub k q = gives.last_gives _ sub_gives (λ t ws h.
      subst (λ (t : ResolvedType). Run expr_run (DeepExpr names (suc f)) (TypeExpr.leaf t) (c ∷ ws)) (sym h.2)
      (record { is = ap₂ ◌∷◌ q h.3; good = record { good = (tt, (h.4, h.5, h.6)); deep = omega arith } }))
  node_gives f part ih c TypeKind.Bits k q = gives.last_gives _ (gives.last_gives (λ t ws. Run expr_run (DeepExpr names (suc f)) (TypeExpr.leaf t) (c ∷ ws)) (bits_exact names).gives (λ ns ws h.
      record { is = ap₂ ◌∷◌ q h.is; good = record { good = (tt, h.good); deep = omega arith } })) (λ t ws h. h)
  node_gives f part ih c TypeKind.Named k q = gives.below_then (λ x l. gives.give_gives _ _
      (record { is = ap (λ (w : ℕ). w ∷ x ∷ []) q; good = record { good = l; deep = omega arith } }))
  node_gives f part ih c TypeKind.Qualified k q = gives.below_then (λ s l. gives.below_then (λ x m. gives.give_gives _ _
      (record { is = ap (λ (w : ℕ). w ∷ s ∷ x ∷ []) q; good = record { good = (l, m); deep = omega arith } })))
  node_gives f part ih c TypeKind.Generic k q = gives.below_then (λ x l. gives.last_gives _ ih (λ a ws h.
      record { is = ap₂ ◌∷◌ q (ap (λ (l : List ℕ). x ∷ l) h.is); good = record { good = (l, h.good.good); deep = omega (arith, h.good.deep) } }))
  node_gives f part ih c TypeKind.One k q = gives.last_gives _ ih (λ t ws h.
      record { is = ap (λ (l : List ℕ). c ∷ l) h.is; good = record { good = (k, h.good.good); deep = omega (arith, h.good.deep) } })
  node_gives f part ih c TypeKind.Fixed k q = gives.then_gives wide_gives (λ n vs e. gives.last_gives _ ih (λ t ws h.
      record { is = ap₂ ◌∷◌ q (ap₂ ◌++◌ e h.is); good = record { good = h.good.good; deep = omega (arith, h.good.deep) } }))
  node_gives f part ih c TypeKind.Two k q = gives.then_gives ih (λ t vs h. gives.last_gives _ ih (λ u ws i.
      record { is = ap (λ (l : List ℕ). c ∷ l) (ap₂ ◌++◌ h.is i.is); good = record { good = (k, h.good.good, i.good.good); deep = omega (arith, h.good.deep, i.good.deep) } }))
  node_gives f part ih c TypeKind.Unknown k q = gives.fail_gives

  pub expr_tree_gives : (f : ℕ) → Gives (type_expr_tree names f) (Run expr_run (DeepExpr names f))
  unfolding type_expr_tree
  expr_tree_gives zero = gives.fail_gives
  expr_tree_gives (suc f) = gives.word_then (λ c. node_gives f (type_expr_tree names f) (expr_tree_gives f) c (type_kind c) refl (type_code c))

  pub expr_tree_exact : (f : ℕ) → Exact (type_expr_tree names f) expr_run (DeepExpr names f)
  expr_tree_exact f = record { reads = λ e g. expr_tree_reads e f g.good g.deep; gives = expr_tree_gives f }

  pub type_expr_exact : Exact (type_expr names) expr_run (StoredExpr names)
  unfolding type_expr
  type_expr_exact =
      let x = sized_exact (expr_tree_exact 64) in
      record {
        reads = λ e g. x.reads e (record { good = g.good; deep = omega (arith, depth_expr_run names e g.good, g.short) }, g.short);
        gives = gives.so x.gives (λ e ws h. record { is = h.is; good = record { good = h.good.0.good; short = h.good.1 } });
      }
