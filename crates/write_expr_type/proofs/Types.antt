-- The type of an accepted expression: the expected one, or the one foretold. Types are told by their runs.
use Prim.Native.Nat.{ℕ}
use mathlib.Core.Path.{◌≡◌, refl, sym, ap, ◌∙◌}
use mathlib.Core.Bool.{Bool, true, false, cond}
use mathlib.Core.Option.{Option, none, some}
use Rattle.rules.specs.Syntax.{ResolvedType, run, Expr}
use Rattle.rules.specs.Types.{BOOL, STRING}
use Rattle.rules.specs.Fits.{literal_own}
use Rattle.rules.specs.Options.{or, or_else}
use Rattle.rules.specs.Refusal.{Result, ok}
use Rattle.rules.specs.Infer.{PortableExpr, PortableExprKind, typed, type_of, FunctionContext, is_arithmetic, place, place_type, expression_hint, infer_literal, binary_hint, infer_expr}
use Rattle.rules.proofs.Clash.{clash}
use Rattle.write_expr_type.specs.Foretold.{foretold, left_type}
use Rattle.write_expr_type.proofs.Accepted.{bind_ok, or_ok, ended_typed, ended_run, Operands, operands_of, value_of}

module _ (c : FunctionContext) where
  pub under : (e : Expr) (t : ResolvedType) (context : ℕ) (v : PortableExpr) → infer_expr c e (some t) context ≡ ok v → run (type_of v) ≡ run t
  unfolding infer_expr
  under (Expr.literal k low high) t context v e = ended_run c t context _ _ v (bind_ok _ _ v e).2
  under (Expr.bool b) t context v e = ended_run c t context _ _ v e
  under (Expr.string s) t context v e = ended_run c t context _ _ v e
  under (Expr.local x) t context v e = ended_run c t context _ _ v (bind_ok _ _ v e).2
  under Expr.self_ref t context v e = ended_run c t context _ _ v e
  under (Expr.field_access f r) t context v e = ended_run c t context _ _ v (bind_ok _ _ v e).2
  under (Expr.call f es) t context v e = clash (cc)
  under (Expr.trait_method_call u m r es) t context v e = clash (cc)
  under (Expr.binary op l r) t context v e = ended_run c t context _ _ v (bind_ok _ _ v (bind_ok _ _ v (bind_ok _ _ v e).2).2).2
  under (Expr.unary op r) t context v e = ended_run c t context _ _ v (bind_ok _ _ v (bind_ok _ _ v e).2).2

  -- a value by its type
  type_is : (t : ResolvedType) (k : PortableExprKind) (v : PortableExpr) → typed t k ≡ v → run (type_of v) ≡ run t
  unfolding type_of
  type_is t k v e = ap (λ (w : PortableExpr). run (type_of w)) (sym e)

  -- under a hint or none
  hinted : (l : Expr) (h : Option ResolvedType) (v : PortableExpr) → infer_expr c l h 6 ≡ ok v → (infer_expr c l none 6 ≡ ok v → run (type_of v) ≡ run (foretold c l)) → run (type_of v) ≡ run (or h (foretold c l))
  unfolding or
  hinted l none v e f = f e
  hinted l (some t) v e f = under l t 6 v e

  result : (b : Bool) (t u : ResolvedType) → (b ≡ true → run t ≡ run u) → run (cond b t BOOL) ≡ run (cond b u BOOL)
  result true t u h = h refl
  result false t u h = refl

  pub foretells : (e : Expr) (context : ℕ) (v : PortableExpr) → infer_expr c e none context ≡ ok v → run (type_of v) ≡ run (foretold c e)
  unfolding infer_expr infer_literal foretold expression_hint place place_type or
  foretells (Expr.literal k low high) context v e =
      let b = bind_ok (ok (literal_own k)) _ v e in
      let q : literal_own k ≡ b.0 = (let z : ◌≡◌ {A = Result ResolvedType} (ok (literal_own k)) (ok b.0) = b.1 in cc) in
      type_is b.0 _ v (ended_typed c none context b.0 _ v b.2) ∙ ap run (sym q)
  foretells (Expr.bool b) context v e = type_is BOOL _ v (ended_typed c none context BOOL _ v e)
  foretells (Expr.string s) context v e = type_is STRING _ v (ended_typed c none context STRING _ v e)
  foretells (Expr.local x) context v e =
      let b = bind_ok _ _ v e in
      type_is b.0 _ v (ended_typed c none context b.0 _ v b.2) ∙ ap run (sym (or_ok (expression_hint c (Expr.local x)) _ b.0 b.1))
  foretells Expr.self_ref context v e = type_is c.self_type _ v (ended_typed c none context c.self_type _ v e)
  foretells (Expr.field_access f r) context v e =
      let b = bind_ok _ _ v e in
      type_is b.0 _ v (ended_typed c none context b.0 _ v b.2) ∙ ap run (sym (or_ok (expression_hint c (Expr.field_access f r)) _ b.0 b.1))
  foretells (Expr.call f es) context v e = clash (cc)
  foretells (Expr.trait_method_call t m r es) context v e = clash (cc)
  foretells (Expr.binary op l r) context v e =
      let w = operands_of c op l r none context v e in
      type_is (cond (is_arithmetic op) (type_of w.left) BOOL) _ v w.is
      ∙ result (is_arithmetic op) (type_of w.left) (or (binary_hint c op l r none) (foretold c l)) (λ _. hinted l (binary_hint c op l r none) w.left w.left_is (foretells l 6 w.left))
  foretells (Expr.unary op r) context v e =
      let w = value_of c op r none context v e in
      type_is (type_of w.value) _ v w.is ∙ foretells r 7 w.value w.value_is

  -- the type of a binary's left
  pub left_run : (op : ℕ) (l r : Expr) (o : Option ResolvedType) (v : PortableExpr) (w : Operands c op l r o v) → run (type_of w.left) ≡ run (left_type c op l r (type_of v))
  unfolding left_type binary_hint
  left_run op l r o v w = go (expression_hint c l) (expression_hint c r) (is_arithmetic op) w.left_is (type_is (cond (is_arithmetic op) (type_of w.left) BOOL) _ v w.is)
    where
      go : (g h : Option ResolvedType) (b : Bool) → infer_expr c l (or_else g (or_else h (cond b o none))) 6 ≡ ok w.left → run (type_of v) ≡ run (cond b (type_of w.left) BOOL)
          → run (type_of w.left) ≡ run (or (or_else g (or_else h (cond b none none))) (cond b (type_of v) (foretold c l)))
      go (some t) h b e q = unfold or or_else in under l t 6 w.left (unfold or_else in e)
      go none (some t) b e q = unfold or or_else in under l t 6 w.left (unfold or_else in e)
      go none none true e q = unfold or or_else in sym q
      go none none false e q = unfold or or_else in foretells l 6 w.left (unfold or_else in e)
