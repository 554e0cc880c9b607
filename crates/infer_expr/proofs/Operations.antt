-- Operations: what came of them, by what came of their operands.
use Prim.Native.Nat.{ℕ}
use mathlib.Core.Path.{◌≡◌, refl}
use mathlib.Core.Option.{Option, some}
use Rattle.rules.specs.Syntax.{ResolvedType, Expr}
use Rattle.rules.specs.Refusal.{Result, ◌>>=◌}
use Rattle.rules.specs.Infer.{PortableExpr, PortableExprKind, type_of, FunctionContext, binary_hint, infer_expr}
use Rattle.type_words.specs.Holds.{Holds}
use Rattle.infer_result.specs.declared.inferred.Inferred.{Inferred}
use Rattle.infer_result.specs.Says.{Says}
use Rattle.infer_result.proofs.Steps.{stop, go_on, says_≡}
use Rattle.infer_result.specs.Operators.{binary_end, unary_end}

module _ (names : ℕ) (c : FunctionContext) (o : Option ResolvedType) (context op : ℕ) (d e : Expr) where
  abbrev behind_right : PortableExpr → PortableExpr → Result PortableExpr
  behind_right v w = binary_end c op o context (type_of v) (PortableExprKind.binary op v w)

  abbrev behind_left : PortableExpr → Result PortableExpr
  behind_left v = infer_expr c e (some (type_of v)) 6 >>= behind_right v

  binary_opened : infer_expr c (Expr.binary op d e) o context ≡ (infer_expr c d (binary_hint c op d e o) 6 >>= behind_left)
  unfolding infer_expr binary_end
  binary_opened = refl

  module _ (a : Inferred) (sa : Says names c.function (infer_expr c d (binary_hint c op d e o) 6) a) where
    pub left_refused : (a.number ≡ 0 → ⊥) → Says names c.function (infer_expr c (Expr.binary op d e) o context) a
    left_refused n = says_≡ names c.function a binary_opened (stop names c.function _ behind_left a sa n)

    module _ (z : a.number ≡ 0) (b : Inferred) (sb : (t : ResolvedType) → Holds names a.ty t → Says names c.function (infer_expr c e (some t) 6) b) where
      pub right_refused : (b.number ≡ 0 → ⊥) → Says names c.function (infer_expr c (Expr.binary op d e) o context) b
      right_refused n = says_≡ names c.function b binary_opened (go_on names c.function _ behind_left a b sa z (λ v i p. stop names c.function _ (behind_right v) b (sb (type_of v) p) n))

      pub both_typed : b.number ≡ 0 → (r : Inferred) → ((t : ResolvedType) → Holds names a.ty t → (k : PortableExprKind) → Says names c.function (binary_end c op o context t k) r)
          → Says names c.function (infer_expr c (Expr.binary op d e) o context) r
      both_typed y r h = says_≡ names c.function r binary_opened (go_on names c.function _ behind_left a r sa z (λ v i p. go_on names c.function _ (behind_right v) b r (sb (type_of v) p) y (λ w j q. h (type_of v) p (PortableExprKind.binary op v w))))

module _ (names : ℕ) (c : FunctionContext) (o : Option ResolvedType) (context op : ℕ) (e : Expr) where
  abbrev behind_value : PortableExpr → Result PortableExpr
  behind_value v = unary_end c op o context (type_of v) (PortableExprKind.unary op v)

  unary_opened : infer_expr c (Expr.unary op e) o context ≡ (infer_expr c e o 7 >>= behind_value)
  unfolding infer_expr unary_end
  unary_opened = refl

  module _ (a : Inferred) (sa : Says names c.function (infer_expr c e o 7) a) where
    pub value_refused : (a.number ≡ 0 → ⊥) → Says names c.function (infer_expr c (Expr.unary op e) o context) a
    value_refused n = says_≡ names c.function a unary_opened (stop names c.function _ behind_value a sa n)

    pub value_typed : a.number ≡ 0 → (r : Inferred) → ((t : ResolvedType) → Holds names a.ty t → (k : PortableExprKind) → Says names c.function (unary_end c op o context t k) r)
        → Says names c.function (infer_expr c (Expr.unary op e) o context) r
    value_typed z r h = says_≡ names c.function r unary_opened (go_on names c.function _ behind_value a r sa z (λ v i p. h (type_of v) p (PortableExprKind.unary op v)))
