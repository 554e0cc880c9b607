-- Laws: the nodes of expressions, by the kind of their code: their own words and their parts.
use Prim.Native.Nat.{ℕ, ◌+◌, ◌<◌, ◌≤◌}
use mathlib.Core.Path.{◌≡◌, sym, ap, subst, ◌∙◌}
use mathlib.Core.List.{List}
use native.Mathlib.Omega.{arith}
use lib.ListN.{length, get_or}
use Rattle.rules.specs.Syntax.{Expr, Exprs}
use Rattle.rules.specs.Kinds.{expr_kind}
use Rattle.rules.specs.declared.kinds.ExprKind.{ExprKind}
use Rattle.laws.specs.Runs.{count}
use Rattle.pool_expressions.specs.ExprAt.{ExprAt, ExprsAt}
use Rattle.pool_expressions.proofs.ExprAt.{value_shape, value_shape_at}
use Rattle.skip_types.specs.declared.Node.{Node}
use Rattle.skip_types.specs.Pending.{Pending}
use Rattle.skip_types.proofs.Pending.{none_left, one_left, two_left, more_left, numbered, moved}
use Rattle.skip_functions.specs.ExprNodes.{expr_node}

-- the word at a place that is the same
same_word : (ws : List ℕ) (i j : ℕ) → i ≡ j → get_or ws i 0 ≡ get_or ws j 0
same_word ws i j e = ap (λ (k : ℕ). get_or ws k 0) e

module _ (names strings : ℕ) (ws : List ℕ) where
  -- arguments are as many as their number
  exprs_left : (es : Exprs) (at n : ℕ) → ExprsAt names strings ws es at n → Pending (ExprAt names strings ws) (count es) at n
  exprs_left Exprs.nil at n h = none_left (sym h)
  exprs_left (Exprs.cons e es) at n h = more_left e h.0 h.1 (exprs_left es h.0 n h.2)

  -- the parts of what stands there, by the shape of its code
  abbrev Parts : ExprKind → ℕ → ℕ → Type 0
  Parts k at n = Pending (ExprAt names strings ws) (expr_node k (get_or ws (at + 2) 0) (get_or ws (at + 3) 0)).parts (at + (expr_node k (get_or ws (at + 2) 0) (get_or ws (at + 3) 0)).words) n

  parts_of : (e : Expr) (at n : ℕ) → ExprAt names strings ws e at n → Parts (value_shape e) at n
  parts_of (Expr.literal c low high) at n h = none_left (omega (arith, h.3))
  parts_of (Expr.bool b) at n h = none_left (omega (arith, h.3))
  parts_of (Expr.string s) at n h = none_left (omega (arith, h.3))
  parts_of (Expr.local x) at n h = none_left (omega (arith, h.2))
  parts_of Expr.self_ref at n h = none_left h.1
  parts_of (Expr.field_access x e) at n h = moved _ (omega arith) (one_left e h.2)
  parts_of (Expr.call x es) at n h = moved _ (omega arith) (numbered _ (same_word ws (at + 2) (at + 1 + 1) (omega arith) ∙ h.2.0.is) (exprs_left es (at + 1 + 1 + 1) n h.3))
  parts_of (Expr.trait_method_call t x e es) at n h =
      let w : get_or ws (at + 3) 0 ≡ count es = same_word ws (at + 3) (at + 1 + 1 + 1) (omega arith) ∙ h.3.0.is in
      moved _ (omega arith) (numbered _ (omega arith) (more_left e h.4 h.5 (exprs_left es h.4 n h.6)))
  parts_of (Expr.binary op d e) at n h = moved _ (omega arith) (two_left d e h.3 h.4 h.5)
  parts_of (Expr.unary op e) at n h = moved _ (omega arith) (one_left e h.3)

  -- as the code has them, by the kind of the code
  pub expr_parts : {k : ExprKind} {node : Node} (at : ℕ) → k ≡ expr_kind (get_or ws at 0) → node ≡ expr_node k (get_or ws (at + 2) 0) (get_or ws (at + 3) 0)
      → {z : ℕ} → z ≡ at + node.words → (e : Expr) (n : ℕ) → ExprAt names strings ws e at n → Pending (ExprAt names strings ws) node.parts z n
  expr_parts {k} {node} at q i {z} j e n h =
      let s : expr_node (value_shape e) (get_or ws (at + 2) 0) (get_or ws (at + 3) 0) ≡ node = ap (λ (y : ExprKind). expr_node y (get_or ws (at + 2) 0) (get_or ws (at + 3) 0)) (sym (value_shape_at names strings ws e at n h).kind ∙ sym q) ∙ sym i in
      moved z j (subst (λ (y : Node). Pending (ExprAt names strings ws) y.parts (at + y.words) n) s (parts_of e at n h))

  -- an expression has a word at least
  mutual
    grows : (e : Expr) (at n : ℕ) → ExprAt names strings ws e at n → at < n
    grows (Expr.literal c low high) at n h = omega (arith, h.3)
    grows (Expr.bool b) at n h = omega (arith, h.3)
    grows (Expr.string s) at n h = omega (arith, h.3)
    grows (Expr.local x) at n h = omega (arith, h.2)
    grows Expr.self_ref at n h = omega (arith, h.1)
    grows (Expr.field_access x e) at n h = let g = grows e (at + 1 + 1) n h.2 in omega arith
    grows (Expr.call x es) at n h = let g = all_grow es (at + 1 + 1 + 1) n h.3 in omega arith
    grows (Expr.trait_method_call t x e es) at n h = let g = grows e (at + 1 + 1 + 1 + 1) h.4 h.5 in let k = all_grow es h.4 n h.6 in omega arith
    grows (Expr.binary op d e) at n h = let g = grows d (at + 1 + 1) h.3 h.4 in let k = grows e h.3 n h.5 in omega arith
    grows (Expr.unary op e) at n h = let g = grows e (at + 1 + 1) n h.3 in omega arith

    all_grow : (es : Exprs) (at n : ℕ) → ExprsAt names strings ws es at n → at ≤ n
    all_grow Exprs.nil at n h = omega arith
    all_grow (Exprs.cons e es) at n h = let g = grows e at h.0 h.1 in let k = all_grow es h.0 n h.2 in omega arith

  -- and stands inside
  pub expr_inside : (e : Expr) (at n : ℕ) → ExprAt names strings ws e at n → (at < length ws) × (at < n)
  expr_inside e at n h = ((value_shape_at names strings ws e at n h).inside, grows e at n h)

  -- from the code's place, which is the same
  pub expr_from : (e : Expr) (n : ℕ) {i j : ℕ} → i ≡ j → ExprAt names strings ws e j n → ExprAt names strings ws e i n
  expr_from e n q h = subst (λ (k : ℕ). ExprAt names strings ws e k n) (sym q) h
