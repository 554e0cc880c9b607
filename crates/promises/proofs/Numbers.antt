-- The rules over a readable image refuse with 3 to 23: never with 0, never with 24.
use Prim.Native.Nat.{ℕ, ◌≤◌}
use mathlib.Core.Bool.{Bool, true, false}
use mathlib.Core.List.{List, [], ◌∷◌}
use mathlib.Core.Option.{Option, none, some}
use native.Mathlib.Omega.{arith}
use Rattle.rules.specs.Syntax.{ResolvedType, Expr, Statement, FnBody, Param, ImplFnDef, MessageDef, TraitDef, TraitFnDef, ImplDef, CompiledSchema}
use Rattle.rules.specs.Refusal.{Refusal, Result, ok, err, ◌>>=◌, or_refuse}
use Rattle.rules.specs.Types.{same_type}
use Rattle.rules.specs.Fits.{literal_fits, literal_own}
use Rattle.rules.specs.Substitute.{Counted, too_large, done}
use Rattle.rules.specs.Signatures.{PortableSignature, find_trait, expected_function, expected_list, expected_functions}
use Rattle.rules.specs.CheckSignature.{check_params, check_signature}
use Rattle.rules.specs.Infer.{PortableExprKind, type_of, FunctionContext, Place, of_local, of_self, of_field, nowhere, type_mismatch, ensure_same_type, ended, infer_literal, infer_expr}
use Rattle.rules.specs.Bodies.{with_local, project_return, assigned_field, project_statements, block_of, project_function}
use Rattle.rules.specs.Project.{no_repeat, no_stranger, project_list, find_implementation, target_message, project_impl}
use Rattle.rules.specs.Answer.{project_call}
use Rattle.laws_answers.proofs.Ends as ends
use Rattle.laws_answers.proofs.Ends.{Ends}

pub record Numbered (r : Refusal) : Type 0 where
  pub low : 3 ≤ r.number
  pub high : r.number ≤ 23

-- where it is refused, the refusal is numbered so
abbrev pub Proper : {A : Type 0} → Result A → Type 0
Proper r = Ends Numbered r (λ _. Unit {0})

given : {A : Type 0} (a : A) → Proper (ok a)
given a = ends.ok_ends a _ tt

refused : {A : Type 0} (r : Refusal) → Numbered r → Proper {A = A} (err r)
refused r n = ends.err_ends r n

then_proper : {A B : Type 0} (r : Result A) (f : A → Result B) → Proper r → ((a : A) → Proper (f a)) → Proper (r >>= f)
then_proper r f p q = ends.then_ends p (λ a _. q a)

there_proper : {A : Type 0} (o : Option A) (r : Refusal) → Numbered r → Proper (or_refuse o r)
unfolding or_refuse
there_proper none r n = refused r n
there_proper (some a) r n = given a

-- ---- signatures

module _ (schema : CompiledSchema) where
  expected_function_proper : (params : List (Param ResolvedType)) (f : ℕ) (c : Counted PortableSignature) → Proper (expected_function schema params f c)
  unfolding expected_function
  expected_function_proper params f too_large = refused _ (omega arith)
  expected_function_proper params f (done v s) = then_proper _ _ (ends.last_ensure_ends _ _ (omega arith)) (λ u. given _)

  expected_list_proper : (params : List (Param ResolvedType)) (fs : List TraitFnDef) → Proper (expected_list schema params fs)
  unfolding expected_list
  expected_list_proper params [] = given _
  expected_list_proper params (f ∷ fs) = then_proper _ _ (expected_function_proper params _ _) (λ p. then_proper _ _ (expected_list_proper params fs) (λ q. given _))

  expected_proper : (trait : TraitDef) (impl : ImplDef) → Proper (expected_functions schema trait impl)
  unfolding expected_functions
  expected_proper trait impl = then_proper _ _ (ends.last_ensure_ends _ _ (omega arith)) (λ u. expected_list_proper _ _)

check_params_proper : (f : ℕ) (xs ys : List (Param ResolvedType)) → Proper (check_params f xs ys)
unfolding check_params
check_params_proper f [] [] = given _
check_params_proper f [] (y ∷ ys) = given _
check_params_proper f (x ∷ xs) [] = given _
check_params_proper f (x ∷ xs) (y ∷ ys) =
    then_proper _ _ (ends.last_ensure_ends _ _ (omega arith)) (λ u. then_proper _ _ (ends.last_ensure_ends _ _ (omega arith)) (λ u. check_params_proper f xs ys))

check_proper : (f : ImplFnDef) (s : PortableSignature) → Proper (check_signature f s)
unfolding check_signature
check_proper f s = then_proper _ _ (ends.last_ensure_ends _ _ (omega arith)) (λ u. then_proper _ _ (check_params_proper _ _ _) (λ u. ends.last_ensure_ends _ _ (omega arith)))

-- ---- expressions

module _ (c : FunctionContext) where
  mismatch_proper : (A : Type 0) (n : ℕ) (t u : ResolvedType) → Proper {A = A} (type_mismatch c n t u)
  unfolding type_mismatch
  mismatch_proper A n t u = refused _ (omega arith)

  ended_proper : (x : Option ResolvedType) (n : ℕ) (t : ResolvedType) (k : PortableExprKind) → Proper (ended c x n t k)
  unfolding ended ensure_same_type
  ended_proper none n t k = given _
  ended_proper (some u) n t k = then_proper _ _ (go (same_type u t)) (λ u. given _)
    where
      go : (b : Bool) → Proper {A = Unit {0}} (elim b [ true ↦ ok tt | false ↦ type_mismatch c n u t ])
      go true = given _
      go false = mismatch_proper _ n u t

  literal_proper : (k n : ℕ) (x : Option ResolvedType) → Proper (infer_literal c k n x)
  unfolding infer_literal
  literal_proper k n none = given _
  literal_proper k n (some t) = go (literal_fits k n t)
    where
      go : (b : Bool) → Proper {A = ResolvedType} (elim b [ true ↦ ok t | false ↦ type_mismatch c k t (literal_own k) ])
      go true = given _
      go false = mismatch_proper _ k t _

  infer_proper : (e : Expr) (x : Option ResolvedType) (n : ℕ) → Proper (infer_expr c e x n)
  unfolding infer_expr
  infer_proper (Expr.literal k low high) x n = then_proper _ _ (literal_proper k _ x) (λ t. ended_proper x n t _)
  infer_proper (Expr.bool b) x n = ended_proper x n _ _
  infer_proper (Expr.string s) x n = ended_proper x n _ _
  infer_proper (Expr.local y) x n = then_proper _ _ (there_proper _ _ (omega arith)) (λ t. ended_proper x n t _)
  infer_proper Expr.self_ref x n = ended_proper x n _ _
  infer_proper (Expr.field_access f e) x n = then_proper _ _ (there_proper _ _ (omega arith)) (λ t. ended_proper x n t _)
  infer_proper (Expr.call f es) x n = refused _ (omega arith)
  infer_proper (Expr.trait_method_call t m e es) x n = refused _ (omega arith)
  infer_proper (Expr.binary op l r) x n =
      then_proper _ _ (infer_proper l _ 6) (λ v. then_proper _ _ (infer_proper r (some (type_of v)) 6) (λ w. then_proper _ _ (ends.last_ensure_ends _ _ (omega arith)) (λ u. ended_proper x n _ _)))
  infer_proper (Expr.unary op e) x n =
      then_proper _ _ (infer_proper e x 7) (λ v. then_proper _ _ (ends.last_ensure_ends _ _ (omega arith)) (λ u. ended_proper x n _ _))

  -- ---- bodies

  return_proper : (t : Option ResolvedType) (v : Option Expr) → Proper (project_return c t v)
  unfolding project_return
  return_proper none none = given _
  return_proper none (some e) = refused _ (omega arith)
  return_proper (some t) none = refused _ (omega arith)
  return_proper (some t) (some e) = then_proper _ _ (infer_proper e (some t) 4) (λ v. given _)

assigned_proper : (f : ℕ) (p : Place) → Proper (assigned_field f p)
unfolding assigned_field
assigned_proper f (of_local x) = refused _ (omega arith)
assigned_proper f of_self = refused _ (omega arith)
assigned_proper f (of_field x) = given _
assigned_proper f nowhere = refused _ (omega arith)

statements_proper : (t : Option ResolvedType) (c : FunctionContext) (ss : List Statement) → Proper (project_statements t c ss)
unfolding project_statements
statements_proper t c [] = then_proper _ _ (ends.last_ensure_ends _ _ (omega arith)) (λ u. given _)
statements_proper t c (Statement.expr e ∷ ss) = refused _ (omega arith)
statements_proper t c (Statement.let_local x u e ∷ ss) =
    then_proper _ _ (ends.last_ensure_ends _ _ (omega arith)) (λ u'. then_proper _ _ (infer_proper c e u 3) (λ v. then_proper _ _ (statements_proper t (with_local c x (type_of v)) ss) (λ r. given _)))
statements_proper t c (Statement.return v ∷ ss) = then_proper _ _ (return_proper c t v) (λ w. then_proper _ _ (ends.last_ensure_ends _ _ (omega arith)) (λ u. given _))
statements_proper t c (Statement.assign target e ∷ ss) =
    then_proper _ _ (assigned_proper _ _) (λ f. then_proper _ _ (there_proper _ _ (omega arith)) (λ u.
    then_proper _ _ (infer_proper c e (some u) 5) (λ v. then_proper _ _ (statements_proper t c ss) (λ r. given _))))

block_proper : (f : ℕ) (b : FnBody) → Proper (block_of f b)
unfolding block_of
block_proper f FnBody.external = refused _ (omega arith)
block_proper f (FnBody.block ss) = given _

function_proper : (f : ImplFnDef) (s : PortableSignature) (m : MessageDef) (i : ImplDef) → Proper (project_function f s m i)
unfolding project_function
function_proper f s m i = then_proper _ _ (block_proper _ _) (λ ss. then_proper _ _ (statements_proper _ _ ss) (λ ps. given _))

-- ---- the whole

repeat_proper : (seen : List ℕ) (fs : List ImplFnDef) → Proper (no_repeat seen fs)
unfolding no_repeat
repeat_proper seen [] = given _
repeat_proper seen (f ∷ fs) = then_proper _ _ (ends.last_ensure_ends _ _ (omega arith)) (λ u. repeat_proper _ fs)

stranger_proper : (known : List ℕ) (fs : List ImplFnDef) → Proper (no_stranger known fs)
unfolding no_stranger
stranger_proper known [] = given _
stranger_proper known (f ∷ fs) = then_proper _ _ (ends.last_ensure_ends _ _ (omega arith)) (λ u. stranger_proper known fs)

list_proper : (i : ImplDef) (m : MessageDef) (ss : List PortableSignature) → Proper (project_list i m ss)
unfolding project_list
list_proper i m [] = given _
list_proper i m (s ∷ ss) =
    then_proper _ _ (there_proper _ _ (omega arith)) (λ f. then_proper _ _ (check_proper f s) (λ u.
    then_proper _ _ (function_proper f s m i) (λ g. then_proper _ _ (list_proper i m ss) (λ gs. given _))))

pub impl_proper : (schema : CompiledSchema) (i : ImplDef) → Proper (project_impl schema i)
unfolding project_impl find_trait target_message
impl_proper schema i =
    then_proper _ _ (there_proper _ _ (omega arith)) (λ t. then_proper _ _ (there_proper _ _ (omega arith)) (λ m.
    then_proper _ _ (expected_proper schema t i) (λ e. then_proper _ _ (repeat_proper _ _) (λ u.
    then_proper _ _ (stranger_proper _ _) (λ u. then_proper _ _ (list_proper i m _) (λ fs. given _))))))

pub call_proper : (row : ℕ) (schema : CompiledSchema) → Proper (project_call row schema)
unfolding project_call find_implementation
call_proper row schema = then_proper _ _ (there_proper _ _ (omega arith)) (λ i. then_proper _ _ (impl_proper schema i) (λ p. given _))
