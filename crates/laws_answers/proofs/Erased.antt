-- A projection loses nothing but types written on lets: the stored statements come back from the typed ones.
use Prim.Native.Nat.{ℕ}
use mathlib.Core.Path.{◌≡◌, refl, sym, ap, ap₂}
use mathlib.Core.List.{[]}
use mathlib.Core.Option.{Option, none, some}
use Rattle.rules.specs.Syntax.{ResolvedType, Expr, Statement}
use Rattle.rules.specs.Refusal.{Result, or_refuse}
use Rattle.rules.specs.Infer.{PortableExpr, PortableExprKind, typed, type_of, FunctionContext, find_last, Place, of_local, of_self, of_field, nowhere, field_of, place, operand_allowed, unary_allowed, place_type, ensure_same_type, ended, infer_literal, binary_hint, infer_expr}
use Rattle.rules.specs.Bodies.{PortableStatement}
use Rattle.rules.proofs.Clash.{clash}
use Rattle.laws_answers.proofs.Ends as ends
use Rattle.laws_answers.proofs.Ends.{Ends, Any}

-- a typed value with its types left out
abbrev mutual
  pub erased : PortableExpr → Expr
  erased (typed t k) = erased_kind k

  pub erased_kind : PortableExprKind → Expr
  erased_kind (PortableExprKind.literal c low high) = Expr.literal c low high
  erased_kind (PortableExprKind.bool b) = Expr.bool b
  erased_kind (PortableExprKind.string s) = Expr.string s
  erased_kind (PortableExprKind.local x) = Expr.local x
  erased_kind PortableExprKind.self_ref = Expr.self_ref
  erased_kind (PortableExprKind.self_field f) = Expr.field_access f Expr.self_ref
  erased_kind (PortableExprKind.binary op l r) = Expr.binary op (erased l) (erased r)
  erased_kind (PortableExprKind.unary op e) = Expr.unary op (erased e)

abbrev pub erased_option : Option PortableExpr → Option Expr
erased_option none = none
erased_option (some e) = some (erased e)

abbrev pub erased_statement : PortableStatement → Statement
erased_statement (PortableStatement.let_local x t e) = Statement.let_local x none (erased e)
erased_statement (PortableStatement.return v) = Statement.return (erased_option v)
erased_statement (PortableStatement.assign_self_field f e) = Statement.assign (Expr.field_access f Expr.self_ref) (erased e)

-- a statement without the type written on a let
abbrev pub untyped : Statement → Statement
untyped (Statement.expr e) = Statement.expr e
untyped (Statement.let_local x t e) = Statement.let_local x none e
untyped (Statement.return v) = Statement.return v
untyped (Statement.assign t e) = Statement.assign t e

-- only SelfRef is the place of self
not_self : (f : ℕ) (p : Place) → field_of f p ≡ of_self → ⊥
unfolding field_of
not_self f (of_local x) e = clash (cc)
not_self f of_self e = clash (cc)
not_self f (of_field g) e = clash (cc)
not_self f nowhere e = clash (cc)

self_place : (e : Expr) → place e ≡ of_self → e ≡ Expr.self_ref
unfolding place
self_place (Expr.literal c l h) q = clash (cc)
self_place (Expr.bool b) q = clash (cc)
self_place (Expr.string s) q = clash (cc)
self_place (Expr.local x) q = clash (cc)
self_place Expr.self_ref q = refl
self_place (Expr.field_access f e) q = absurd (not_self f (place e) q)
self_place (Expr.call f es) q = clash (cc)
self_place (Expr.trait_method_call t m e es) q = clash (cc)
self_place (Expr.binary op l r) q = clash (cc)
self_place (Expr.unary op e) q = clash (cc)

-- a field's place is that of a field of SelfRef
field_place : (f : ℕ) (p : Place) (g : ℕ) → field_of f p ≡ of_field g → (f ≡ g) × (p ≡ of_self)
unfolding field_of
field_place f (of_local x) g q = clash (cc)
field_place f of_self g q = (cc, refl)
field_place f (of_field h) g q = clash (cc)
field_place f nowhere g q = clash (cc)

pub target_field : (e : Expr) (g : ℕ) → place e ≡ of_field g → e ≡ Expr.field_access g Expr.self_ref
unfolding place
target_field (Expr.literal c l h) g q = clash (cc)
target_field (Expr.bool b) g q = clash (cc)
target_field (Expr.string s) g q = clash (cc)
target_field (Expr.local x) g q = clash (cc)
target_field Expr.self_ref g q = clash (cc)
target_field (Expr.field_access f e) g q = let p = field_place f (place e) g q in ap₂ Expr.field_access p.0 (self_place e p.1)
target_field (Expr.call f es) g q = clash (cc)
target_field (Expr.trait_method_call t m e es) g q = clash (cc)
target_field (Expr.binary op l r) g q = clash (cc)
target_field (Expr.unary op e) g q = clash (cc)

-- of a result of which nothing is asked
pub any_ends : {A : Type 0} (r : Result A) → Ends Any r (λ _. Unit {0})
any_ends r = record { gives = λ a e. tt; refuses = λ r e. tt }

module _ (c : FunctionContext) where
  ended_erased : (P : PortableExpr → Type 0) (expected : Option ResolvedType) (ctx : ℕ) (t : ResolvedType) (k : PortableExprKind) → P (typed t k) → Ends Any (ended c expected ctx t k) P
  unfolding ended
  ended_erased P none ctx t k p = ends.ok_ends _ P p
  ended_erased P (some e) ctx t k p = ends.then_ends (any_ends (ensure_same_type c ctx e t)) (λ _ _. ends.ok_ends _ P p)

  -- a field is found only of SelfRef
  field_found : (f : ℕ) (p : Place) → Ends Any (or_refuse (place_type c (field_of f p)) (record { number = 17; function = c.function; second = f; detail = [] })) (λ _. p ≡ of_self)
  unfolding field_of place_type or_refuse
  field_found f (of_local x) = ends.err_ends _ tt
  field_found f of_self = record { gives = λ a e. refl; refuses = λ r e. tt }
  field_found f (of_field g) = ends.err_ends _ tt
  field_found f nowhere = ends.err_ends _ tt

  pub infer_erased : (e : Expr) (expected : Option ResolvedType) (ctx : ℕ) → Ends Any (infer_expr c e expected ctx) (λ v. erased v ≡ e)
  unfolding infer_expr
  infer_erased (Expr.literal code low high) expected ctx = ends.then_ends (any_ends (infer_literal c code _ expected)) (λ t _. ended_erased _ expected ctx t _ refl)
  infer_erased (Expr.bool b) expected ctx = ended_erased _ expected ctx _ _ refl
  infer_erased (Expr.string s) expected ctx = ended_erased _ expected ctx _ _ refl
  infer_erased (Expr.local x) expected ctx = ends.then_ends (any_ends (or_refuse (find_last x c.locals) _)) (λ t _. ended_erased _ expected ctx t _ refl)
  infer_erased Expr.self_ref expected ctx = ended_erased _ expected ctx _ _ refl
  infer_erased (Expr.field_access f e) expected ctx = ends.then_ends (field_found f (place e)) (λ t q. ended_erased _ expected ctx t _ (ap (Expr.field_access f) (sym (self_place e q))))
  infer_erased (Expr.call f es) expected ctx = ends.err_ends _ tt
  infer_erased (Expr.trait_method_call t m e es) expected ctx = ends.err_ends _ tt
  infer_erased (Expr.binary op l r) expected ctx =
      ends.then_ends (infer_erased l (binary_hint c op l r expected) 6) (λ left p. ends.then_ends (infer_erased r (some (type_of left)) 6) (λ right q.
      ends.ensure_ends (operand_allowed op (type_of left)) _ _ tt (λ _. ended_erased _ expected ctx _ _ (ap₂ (Expr.binary op) p q))))
  infer_erased (Expr.unary op e) expected ctx =
      ends.then_ends (infer_erased e expected 7) (λ value p. ends.ensure_ends (unary_allowed op (type_of value)) _ _ tt (λ _. ended_erased _ expected ctx _ _ (ap (Expr.unary op) p)))
