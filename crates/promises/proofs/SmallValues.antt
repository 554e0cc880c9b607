-- The words of typed expressions are small where the words of what they came from are.
use Prim.Native.Nat.{ℕ}
use mathlib.Core.Bool.{Bool, true, false, cond}
use mathlib.Core.List.{List, [], ◌∷◌}
use mathlib.Core.Option.{Option, none, some}
use native.Mathlib.Omega.{arith}
use lib.Dec.{eqb}
use Rattle.rules.specs.Syntax.{ResolvedType, run, Expr, Param}
use Rattle.rules.specs.Types.{BOOL, STRING, I64, U64, F64}
use Rattle.rules.specs.Fits.{literal_fits, literal_own}
use Rattle.rules.specs.Refusal.{Result, ok}
use Rattle.rules.specs.Infer.{PortableExpr, PortableExprKind, typed, type_of, FunctionContext, find_last, Place, of_local, of_self, of_field, nowhere, field_of, place, is_arithmetic, operand_allowed, unary_allowed, place_type, expression_hint, type_mismatch, ensure_same_type, ended, infer_literal, binary_hint, infer_expr}
use Rattle.rules.specs.Output.{value_words, kind_words}
use Rattle.rules.specs.Good.{All, AllOption}
use Rattle.laws.proofs.Each.{or_else_all}
use Rattle.laws.specs.Runs.{expr_words}
use Rattle.laws_answers.proofs.Ends as ends
use Rattle.laws_answers.proofs.Ends.{Ends, Any}
use Rattle.laws_answers.proofs.Erased.{any_ends}
use Rattle.promises.proofs.Small.{Small, small_append, small_left, small_right}
use Rattle.promises.proofs.SmallSchema.{SmallType, SmallParam}

pub record SmallContext (c : FunctionContext) : Type 0 where
  pub locals : All SmallParam c.locals
  pub fields : All SmallParam c.fields
  pub self_type : SmallType c.self_type

abbrev pub SmallValue : PortableExpr → Type 0
SmallValue v = Small (value_words v)

pub small_type_of : (v : PortableExpr) → SmallValue v → SmallType (type_of v)
unfolding value_words type_of
small_type_of (typed t k) h = small_left (run t) (kind_words k) h

small_bool : SmallType BOOL
unfolding run
small_bool = (omega arith, tt)

small_string : SmallType STRING
unfolding run
small_string = (omega arith, tt)

small_own : (c : ℕ) → SmallType (literal_own c)
unfolding literal_own run
small_own c = go (eqb c 0) (eqb c 1)
  where
    go : (a b : Bool) → SmallType (cond a I64 (cond b U64 F64))
    go true b = (omega arith, tt)
    go false true = (omega arith, tt)
    go false false = (omega arith, tt)

-- a type found by its name
pub small_last : (x : ℕ) (ps : List (Param ResolvedType)) → All SmallParam ps → AllOption SmallType (find_last x ps)
unfolding find_last
small_last x [] h = tt
small_last x (p ∷ ps) h = or_else_all SmallType (find_last x ps) _ (small_last x ps h.1) (go (eqb x p.name))
  where
    go : (b : Bool) → AllOption SmallType (cond b (some p.ty) none)
    go true = h.0.1
    go false = tt

small_result : (op : ℕ) (t : ResolvedType) → SmallType t → SmallType (cond (is_arithmetic op) t BOOL)
small_result op t h = go (is_arithmetic op)
  where
    go : (b : Bool) → SmallType (cond b t BOOL)
    go true = h
    go false = small_bool

module _ (c : FunctionContext) (small : SmallContext c) where
  small_place : (p : Place) → AllOption SmallType (place_type c p)
  unfolding place_type
  small_place (of_local x) = small_last x c.locals small.locals
  small_place of_self = small.self_type
  small_place (of_field f) = small_last f c.fields small.fields
  small_place nowhere = tt

  small_hint : (op : ℕ) (l r : Expr) (x : Option ResolvedType) → AllOption SmallType x → AllOption SmallType (binary_hint c op l r x)
  unfolding binary_hint expression_hint
  small_hint op l r x h =
      or_else_all SmallType (place_type c (place l)) _ (small_place (place l)) (or_else_all SmallType (place_type c (place r)) _ (small_place (place r)) (go (is_arithmetic op)))
    where
      go : (b : Bool) → AllOption SmallType (cond b x none)
      go true = h
      go false = tt

  small_literal : (k n : ℕ) (x : Option ResolvedType) → AllOption SmallType x → Ends Any (infer_literal c k n x) SmallType
  unfolding infer_literal type_mismatch
  small_literal k n none h = ends.ok_ends _ SmallType (small_own k)
  small_literal k n (some u) h = go (literal_fits k n u)
    where
      go : (b : Bool) → Ends Any (elim b as (λ _. Result ResolvedType) [ true ↦ ok u | false ↦ type_mismatch c k u (literal_own k) ]) SmallType
      go true = ends.ok_ends u SmallType h
      go false = ends.err_ends _ tt

  small_ended : (x : Option ResolvedType) (n : ℕ) (t : ResolvedType) (k : PortableExprKind) → SmallType t → Small (kind_words k) → Ends Any (ended c x n t k) SmallValue
  unfolding ended value_words
  small_ended none n t k g h = ends.ok_ends _ SmallValue (small_append (run t) (kind_words k) g h)
  small_ended (some u) n t k g h = ends.then_ends (any_ends (ensure_same_type c n u t)) (λ _ _. ends.ok_ends _ SmallValue (small_append (run t) (kind_words k) g h))

  pub small_inferred : (e : Expr) (x : Option ResolvedType) (n : ℕ) → AllOption SmallType x → Small (expr_words e) → Ends Any (infer_expr c e x n) SmallValue
  unfolding infer_expr expr_words kind_words
  small_inferred (Expr.literal k low high) x n f h = ends.then_ends (small_literal k _ x f) (λ t g. small_ended x n t (PortableExprKind.literal k low high) g h)
  small_inferred (Expr.bool b) x n f h = small_ended x n BOOL (PortableExprKind.bool b) small_bool h
  small_inferred (Expr.string s) x n f h = small_ended x n STRING (PortableExprKind.string s) small_string h
  small_inferred (Expr.local y) x n f h =
      ends.then_ends (ends.refuse_ends SmallType (find_last y c.locals) _ tt (small_last y c.locals small.locals)) (λ t g. small_ended x n t (PortableExprKind.local y) g h)
  small_inferred Expr.self_ref x n f h = small_ended x n c.self_type PortableExprKind.self_ref small.self_type h
  small_inferred (Expr.field_access y e) x n f h =
      ends.then_ends (ends.refuse_ends SmallType (place_type c (field_of y (place e))) _ tt (small_place (field_of y (place e)))) (λ t g.
      small_ended x n t (PortableExprKind.self_field y) g (h.0, (h.1.0, tt)))
  small_inferred (Expr.call y es) x n f h = ends.err_ends _ tt
  small_inferred (Expr.trait_method_call t m e es) x n f h = ends.err_ends _ tt
  small_inferred (Expr.binary op l r) x n f h =
      ends.then_ends (small_inferred l (binary_hint c op l r x) 6 (small_hint op l r x f) (small_left (expr_words l) (expr_words r) h.1.1)) (λ left a.
      ends.then_ends (small_inferred r (some (type_of left)) 6 (small_type_of left a) (small_right (expr_words l) (expr_words r) h.1.1)) (λ right b.
      ends.ensure_ends (operand_allowed op (type_of left)) _ _ tt (λ _.
      small_ended x n (cond (is_arithmetic op) (type_of left) BOOL) (PortableExprKind.binary op left right) (small_result op (type_of left) (small_type_of left a))
      (h.0, (h.1.0, small_append (value_words left) (value_words right) a b)))))
  small_inferred (Expr.unary op e) x n f h =
      ends.then_ends (small_inferred e x 7 f h.1.1) (λ v a. ends.ensure_ends (unary_allowed op (type_of v)) _ _ tt (λ _.
      small_ended x n (type_of v) (PortableExprKind.unary op v) (small_type_of v a) (h.0, (h.1.0, a))))
