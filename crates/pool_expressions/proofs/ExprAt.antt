-- Laws: which expression stands where among some words: by recursion on the expression, so that its parts come out by projection.
use Prim.Native.Nat.{ℕ, zero, suc, ◌+◌, ◌<◌}
use mathlib.Core.Path.{◌≡◌, refl, ap, ◌∙◌}
use mathlib.Core.List.{List}
use native.Mathlib.Omega.{arith}
use lib.ListN.{get_or}
use Rattle.rules.specs.Syntax.{Expr, Exprs}
use Rattle.rules.specs.Reader.{repeat}
use Rattle.rules.specs.Kinds.{expr_kind}
use Rattle.rules.specs.ReadBodies.{exprs, expr_node, expr_tree, expression}
use Rattle.rules.specs.declared.kinds.ExprKind.{ExprKind}
use Rattle.laws.specs.Runs.{count}
use Rattle.laws.proofs.Expressions.{expression_exact}
use Rattle.image_words.proofs.Gives.{Gives, then, given, failed, word_then, below_then}
use Rattle.image_words.specs.Gives.{Word}
use Rattle.image_words.proofs.Stands.{held_gives}
use Rattle.pool_types.proofs.TypeAt.{wide_then}
use Rattle.pool_expressions.specs.ExprAt.{ExprNode, CountAt, ExprAt, ExprsAt, ExprStands}

-- the kind of an expression's code
abbrev pub value_shape : Expr → ExprKind
value_shape (Expr.literal c low high) = ExprKind.Literal
value_shape (Expr.bool b) = ExprKind.Flag
value_shape (Expr.string s) = ExprKind.Text
value_shape (Expr.local x) = ExprKind.Local
value_shape Expr.self_ref = ExprKind.SelfRef
value_shape (Expr.field_access x e) = ExprKind.FieldAccess
value_shape (Expr.call x es) = ExprKind.Call
value_shape (Expr.trait_method_call t x e es) = ExprKind.TraitMethodCall
value_shape (Expr.binary op l r) = ExprKind.Binary
value_shape (Expr.unary op e) = ExprKind.Unary

module _ (names strings : ℕ) (ws : List ℕ) where
  -- the word at an expression's place tells its shape
  pub value_shape_at : (e : Expr) (at n : ℕ) → ExprAt names strings ws e at n → ExprNode ws at (value_shape e)
  value_shape_at (Expr.literal c low high) at n h = h.0
  value_shape_at (Expr.bool b) at n h = h.0
  value_shape_at (Expr.string s) at n h = h.0
  value_shape_at (Expr.local x) at n h = h.0
  value_shape_at Expr.self_ref at n h = h.0
  value_shape_at (Expr.field_access x e) at n h = h.0
  value_shape_at (Expr.call x es) at n h = h.0
  value_shape_at (Expr.trait_method_call t x e es) at n h = h.0
  value_shape_at (Expr.binary op l r) at n h = h.0
  value_shape_at (Expr.unary op e) at n h = h.0

  module _ (d : ℕ) (part : (at : ℕ) → Gives (expr_tree names strings d) ws at (λ e n. ExprAt names strings ws e at n)) where
    exprs_give : (n at : ℕ) → Gives (exprs n (expr_tree names strings d)) ws at (λ es m. ExprsAt names strings ws es at m × (n ≡ count es))
    unfolding repeat
    exprs_give zero at = given _ (refl, refl)
    exprs_give (suc n) at = then (part at) (λ e m i. then (exprs_give n m) (λ es k w. given _ ((m, i, w.0), ap suc w.1)))

    counted : (n at : ℕ) (es : Exprs) → Word ws at n → n < 33 → n ≡ count es → CountAt ws es at
    counted n at es i l e = (record { inside = i.inside; is = i.is ∙ e }, omega arith)

    node_gives : (at : ℕ) (k : ExprKind) (c : ℕ) → ExprNode ws at k → get_or ws at 0 ≡ c
        → Gives (expr_node names strings (expr_tree names strings d) k c) ws (at + 1) (λ e n. ExprAt names strings ws e at n)
    unfolding expr_node
    node_gives at ExprKind.Literal c i e = wide_then _ (λ low high w. given _ (i, e, w, refl))
    node_gives at ExprKind.Flag c i e = below_then (λ b j l. given _ (i, j, l, refl))
    node_gives at ExprKind.Text c i e = below_then (λ s j l. given _ (i, j, l, refl))
    node_gives at ExprKind.Local c i e = below_then (λ x j l. given _ (i, (j, l), refl))
    node_gives at ExprKind.SelfRef c i e = given _ (i, refl)
    node_gives at ExprKind.FieldAccess c i e = below_then (λ x j l. then (part (at + 1 + 1)) (λ r n a. given _ (i, (j, l), a)))
    node_gives at ExprKind.Call c i e = below_then (λ x j l. below_then (λ n k m. then (exprs_give n (at + 1 + 1 + 1)) (λ es o a. given _ (i, (j, l), counted n (at + 1 + 1) es k m a.1, a.0))))
    node_gives at ExprKind.TraitMethodCall c i e =
        below_then (λ t j l. below_then (λ x h k. below_then (λ n q m. then (part (at + 1 + 1 + 1 + 1)) (λ r o b. then (exprs_give n o) (λ es u a.
        given _ (i, (j, l), (h, k), counted n (at + 1 + 1 + 1) es q m a.1, o, b, a.0))))))
    node_gives at ExprKind.Binary c i e = below_then (λ op j l. then (part (at + 1 + 1)) (λ x m a. then (part m) (λ y n b. given _ (i, j, l, m, a, b))))
    node_gives at ExprKind.Unary c i e = below_then (λ op j l. then (part (at + 1 + 1)) (λ x n a. given _ (i, j, l, a)))
    node_gives at ExprKind.Unknown c i e = failed

  pub expr_tree_gives : (d at : ℕ) → Gives (expr_tree names strings d) ws at (λ e n. ExprAt names strings ws e at n)
  unfolding expr_tree
  expr_tree_gives zero at = failed
  expr_tree_gives (suc d) at = word_then (λ w i. node_gives d (expr_tree_gives d) at (expr_kind w) w (record { inside = i.inside; kind = ap expr_kind i.is }) i.is)

  pub expression_gives : (at : ℕ) → Gives (expression names strings) ws at (λ e n. ExprStands names strings ws e at n)
  unfolding expression
  expression_gives at = held_gives (ExprAt names strings ws) (expression_exact names strings) ws at (expr_tree_gives 32 at)
