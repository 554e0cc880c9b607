-- What an accepted expression was made of.
use Prim.Native.Nat.{ℕ}
use mathlib.Core.Path.{◌≡◌, refl, sym, ap, ◌∙◌}
use mathlib.Core.Bool.{Bool, true, false, cond}
use mathlib.Core.Option.{Option, none, some}
use Rattle.rules.specs.Syntax.{ResolvedType, run, Expr}
use Rattle.rules.specs.Types.{BOOL, VOID, same_type}
use Rattle.rules.specs.Options.{or}
use Rattle.rules.specs.Refusal.{Refusal, Result, ok, err, ◌>>=◌, or_refuse}
use Rattle.rules.specs.Infer.{PortableExpr, PortableExprKind, typed, type_of, FunctionContext, is_arithmetic, type_mismatch, ensure_same_type, ended, binary_hint, infer_expr}
use Rattle.rules.proofs.Clash.{clash}
use Rattle.laws.proofs.Same.{same_true}

pub bind_ok : {A B : Type 0} (x : Result A) (g : A → Result B) (b : B) → (x >>= g) ≡ ok b → (a : A) × (x ≡ ok a) × (g a ≡ ok b)
unfolding ◌>>=◌
bind_ok (ok a) g b e = (a, refl, e)
bind_ok (err r) g b e = clash (cc)

-- what was there
pub or_ok : (o : Option ResolvedType) (r : Refusal) (t : ResolvedType) → or_refuse o r ≡ ok t → or o VOID ≡ t
unfolding or_refuse or
or_ok none r t e = clash (cc)
or_ok (some u) r t e = cc

module _ (c : FunctionContext) where
  same_ok : (context : ℕ) (u t : ResolvedType) (a : Unit {0}) → ensure_same_type c context u t ≡ ok a → run u ≡ run t
  unfolding ensure_same_type type_mismatch same_type
  same_ok context u t a e = go (same_type u t) refl e
    where
      go : (b : Bool) → same_type u t ≡ b → (elim b as (λ _. Result (Unit {0})) [ true ↦ ok tt | false ↦ type_mismatch c {A = Unit {0}} context u t ]) ≡ ok a → run u ≡ run t
      go true q e = same_true (run u) (run t) q
      go false q e = clash (cc)

  pub ended_typed : (o : Option ResolvedType) (context : ℕ) (t : ResolvedType) (k : PortableExprKind) (v : PortableExpr) → ended c o context t k ≡ ok v → typed t k ≡ v
  unfolding ended
  ended_typed none context t k v e = cc
  ended_typed (some u) context t k v e = let b = bind_ok (ensure_same_type c context u t) _ v e in let q : ◌≡◌ {A = Result PortableExpr} (ok (typed t k)) (ok v) = b.2 in cc

  pub ended_run : (u : ResolvedType) (context : ℕ) (t : ResolvedType) (k : PortableExprKind) (v : PortableExpr) → ended c (some u) context t k ≡ ok v → run (type_of v) ≡ run u
  unfolding ended type_of
  ended_run u context t k v e =
      let b = bind_ok (ensure_same_type c context u t) _ v e in
      let q : typed t k ≡ v = (let q : ◌≡◌ {A = Result PortableExpr} (ok (typed t k)) (ok v) = b.2 in cc) in
      ap (λ (w : PortableExpr). run (type_of w)) (sym q) ∙ sym (same_ok context u t b.0 b.1)

  -- a binary's operands
  pub record Operands (op : ℕ) (l r : Expr) (o : Option ResolvedType) (v : PortableExpr) : Type 0 where
    pub left : PortableExpr
    pub right : PortableExpr
    pub left_is : infer_expr c l (binary_hint c op l r o) 6 ≡ ok left
    pub right_is : infer_expr c r (some (type_of left)) 6 ≡ ok right
    pub is : typed (cond (is_arithmetic op) (type_of left) BOOL) (PortableExprKind.binary op left right) ≡ v

  pub operands_of : (op : ℕ) (l r : Expr) (o : Option ResolvedType) (context : ℕ) (v : PortableExpr) → infer_expr c (Expr.binary op l r) o context ≡ ok v → Operands op l r o v
  unfolding infer_expr
  operands_of op l r o context v e =
      let a = bind_ok _ _ v e in
      let b = bind_ok _ _ v a.2 in
      let d = bind_ok _ _ v b.2 in
      record { left = a.0; right = b.0; left_is = a.1; right_is = b.1; is = ended_typed o context _ _ v d.2 }

  -- a unary's value
  pub record Value (op : ℕ) (e : Expr) (o : Option ResolvedType) (v : PortableExpr) : Type 0 where
    pub value : PortableExpr
    pub value_is : infer_expr c e o 7 ≡ ok value
    pub is : typed (type_of value) (PortableExprKind.unary op value) ≡ v

  pub value_of : (op : ℕ) (e : Expr) (o : Option ResolvedType) (context : ℕ) (v : PortableExpr) → infer_expr c (Expr.unary op e) o context ≡ ok v → Value op e o v
  unfolding infer_expr
  value_of op e o context v q =
      let a = bind_ok _ _ v q in
      let d = bind_ok _ _ v a.2 in
      record { value = a.0; value_is = a.1; is = ended_typed o context _ _ v d.2 }
