-- Each projected function comes from a stored one: its statements, with the types left out, are the stored statements without the types on lets.
use Prim.Native.Nat.{ℕ}
use mathlib.Core.Path.{◌≡◌, refl, sym, ap, ap₂}
use mathlib.Core.Bool.{true, not}
use mathlib.Core.List.{List, [], ◌∷◌, map}
use mathlib.Core.Option.{Option, none, some}
use Rattle.rules.specs.Syntax.{ResolvedType, Expr, Statement, FnBody, ImplFnDef, MessageDef, ImplDef, CompiledSchema}
use Rattle.rules.specs.Options.{is_some}
use Rattle.rules.specs.Refusal.{Refusal, or_refuse}
use Rattle.rules.specs.Signatures.{PortableSignature, find_trait, expected_functions}
use Rattle.rules.specs.CheckSignature.{check_signature}
use Rattle.rules.specs.Infer.{type_of, FunctionContext, find_last, Place, of_local, of_self, of_field, nowhere, place}
use Rattle.rules.specs.Bodies.{PortableFunction, is_empty, with_local, project_return, assigned_field, project_statements, block_of, project_function}
use Rattle.rules.specs.Project.{find_function, no_repeat, no_stranger, target_message, project_list, project_impl}
use Rattle.rules.proofs.Clash.{clash}
use Rattle.rules.specs.Good.{All}
use Rattle.laws_answers.proofs.Ends as ends
use Rattle.laws_answers.proofs.Ends.{Ends, Any}
use Rattle.laws_answers.proofs.Erased.{erased_option, erased_statement, untyped, target_field, any_ends, infer_erased}

return_erased : (c : FunctionContext) (returns : Option ResolvedType) (v : Option Expr) → Ends Any (project_return c returns v) (λ o. erased_option o ≡ v)
unfolding project_return
return_erased c none none = ends.ok_ends none _ refl
return_erased c none (some e) = ends.err_ends _ tt
return_erased c (some t) none = ends.err_ends _ tt
return_erased c (some t) (some e) = ends.then_ends (infer_erased c e (some t) 4) (λ value p. ends.ok_ends (some value) _ (ap some p))

field_erased : (f : ℕ) (p : Place) → Ends Any (assigned_field f p) (λ x. p ≡ of_field x)
unfolding assigned_field
field_erased f (of_local x) = ends.err_ends _ tt
field_erased f of_self = ends.err_ends _ tt
field_erased f (of_field x) = ends.ok_ends x _ refl
field_erased f nowhere = ends.err_ends _ tt

empty : (ss : List Statement) → is_empty ss ≡ true → ss ≡ []
unfolding is_empty
empty [] e = refl
empty (s ∷ ss) e = clash (cc)

pub statements_erased : (returns : Option ResolvedType) (c : FunctionContext) (ss : List Statement)
    → Ends Any (project_statements returns c ss) (λ ps. map erased_statement ps ≡ map untyped ss)
unfolding project_statements
statements_erased returns c [] = ends.ensure_ends (not (is_some returns)) _ _ tt (λ _. ends.ok_ends [] _ refl)
statements_erased returns c (Statement.expr e ∷ ss) = ends.err_ends _ tt
statements_erased returns c (Statement.let_local x t e ∷ ss) =
    ends.ensure_ends (not (is_some (find_last x c.locals))) _ _ tt (λ _.
    ends.then_ends (infer_erased c e t 3) (λ value p.
    ends.then_ends (statements_erased returns (with_local c x (type_of value)) ss) (λ rest q.
    ends.ok_ends _ _ (ap₂ ◌∷◌ (ap (Statement.let_local x none) p) q))))
statements_erased returns c (Statement.return v ∷ ss) =
    ends.then_ends (return_erased c returns v) (λ value p.
    ends.ensure_ends (is_empty ss) _ _ tt (λ e.
    ends.ok_ends _ _ (ap₂ ◌∷◌ (ap Statement.return p) (ap (map untyped) (sym (empty ss e))))))
statements_erased returns c (Statement.assign target e ∷ ss) =
    ends.then_ends (field_erased c.function (place target)) (λ f p.
    ends.then_ends (any_ends (or_refuse (find_last f c.fields) _)) (λ t _.
    ends.then_ends (infer_erased c e (some t) 5) (λ value q.
    ends.then_ends (statements_erased returns c ss) (λ rest r.
    ends.ok_ends _ _ (ap₂ ◌∷◌ (ap₂ Statement.assign (sym (target_field target f p)) q) r)))))

-- the stored function that a projected one comes from, the first of its name
pub record Comes (functions : List ImplFnDef) (f : PortableFunction) : Type 0 where
  pub actual : ImplFnDef
  pub statements : List Statement
  pub found : find_function f.name functions ≡ some actual
  pub block : actual.body ≡ FnBody.block statements
  pub same : map erased_statement f.statements ≡ map untyped statements

block_erased : (f : ℕ) (b : FnBody) → Ends Any (block_of f b) (λ ss. b ≡ FnBody.block ss)
unfolding block_of
block_erased f FnBody.external = ends.err_ends _ tt
block_erased f (FnBody.block ss) = ends.ok_ends ss _ refl

function_erased : (functions : List ImplFnDef) (actual : ImplFnDef) (expected : PortableSignature) (message : MessageDef) (impl : ImplDef)
    → find_function expected.name functions ≡ some actual → Ends Any (project_function actual expected message impl) (Comes functions)
unfolding project_function
function_erased functions actual expected message impl e =
    ends.then_ends (block_erased actual.name actual.body) (λ ss b.
    ends.then_ends (statements_erased expected.return_type _ ss) (λ ps p.
    ends.ok_ends _ _ (record { actual = actual; statements = ss; found = e; block = b; same = p })))

-- what is there
found_ends : {A : Type 0} (o : Option A) (r : Refusal) → Ends Any (or_refuse o r) (λ a. o ≡ some a)
unfolding or_refuse
found_ends none r = ends.err_ends r tt
found_ends (some a) r = ends.ok_ends a _ refl

list_erased : (impl : ImplDef) (message : MessageDef) (ss : List PortableSignature) → Ends Any (project_list impl message ss) (All (Comes impl.functions))
unfolding project_list
list_erased impl message [] = ends.ok_ends [] _ tt
list_erased impl message (s ∷ ss) =
    ends.then_ends (found_ends (find_function s.name impl.functions) _) (λ actual e.
    ends.then_ends (any_ends (check_signature actual s)) (λ _ _.
    ends.then_ends (function_erased impl.functions actual s message impl e) (λ f p.
    ends.then_ends (list_erased impl message ss) (λ fs q.
    ends.ok_ends _ _ (p, q)))))

pub project_erased : (schema : CompiledSchema) (impl : ImplDef) → Ends Any (project_impl schema impl) (λ p. All (Comes impl.functions) p.1)
unfolding project_impl
project_erased schema impl =
    ends.then_ends (any_ends (find_trait schema impl)) (λ trait _.
    ends.then_ends (any_ends (target_message schema impl)) (λ message _.
    ends.then_ends (any_ends (expected_functions schema trait impl)) (λ e _.
    ends.then_ends (any_ends (no_repeat [] impl.functions)) (λ _ _.
    ends.then_ends (any_ends (no_stranger (map (λ s. s.name) e.1) impl.functions)) (λ _ _.
    ends.then_ends (list_erased impl message e.1) (λ fs p.
    ends.ok_ends _ _ p))))))
