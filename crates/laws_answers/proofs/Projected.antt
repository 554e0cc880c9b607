-- Projected bodies: typed statements, at most as many as are stored, that grow at most 65-fold.
use Prim.Native.Nat.{ℕ, ◌*◌, ◌≤◌}
use mathlib.Core.Bool.{not}
use mathlib.Core.List.{List, [], ◌∷◌, ◌++◌}
use mathlib.Core.Option.{Option, none, some}
use native.Mathlib.Omega.{arith}
use lib.ListN.{length, length-append}
use Rattle.rules.specs.Syntax.{ResolvedType, run, Expr, Statement}
use Rattle.rules.specs.Options.{is_some}
use Rattle.rules.specs.Infer.{PortableExpr, type_of, FunctionContext, find_last, Place, of_local, of_self, of_field, nowhere, place}
use Rattle.rules.specs.Bodies.{PortableStatement, is_empty, with_local, project_return, assigned_field, project_statements}
use Rattle.rules.specs.Output.{each, value_words, statement_words}
use Rattle.rules.specs.Good.{All, AllOption, Stored}
use Rattle.rules.specs.Exact.{optional}
use Rattle.laws.specs.Runs.{expr_words, stored_statement_words, GoodStatement}
use Rattle.rules.specs.Typed.{TypedNested, TypedStatement, TypedParam}
use Rattle.laws_answers.proofs.Ends as ends
use Rattle.laws_answers.proofs.Ends.{Ends, Short}
use Rattle.laws_answers.specs.Bounds.{growth}
use Rattle.laws_answers.proofs.Values.{GoodContext, find_last_stored, type_of_stored, infer_ends}

-- one more at a list's end
more : {A : Type 0} (P : A → Type 0) (xs : List A) (x : A) → All P xs → P x → All P (xs ++ (x ∷ []))
more P [] x h p = (p, tt)
more P (y ∷ xs) x h p = (h.0, more P xs x h.1 p)

module _ (names : ℕ) where
  -- typed statements against the stored ones
  pub record Projected (ss : List Statement) (ps : List PortableStatement) : Type 0 where
    pub few : length ps ≤ length ss
    pub good : All (TypedStatement names) ps
    pub small : length (each statement_words ps) ≤ growth * length (each stored_statement_words ss)

  with_local_good : (c : FunctionContext) (x : ℕ) (t : ResolvedType) → GoodContext names c → Stored names t → GoodContext names (with_local c x t)
  unfolding with_local
  with_local_good c x t g s = record { locals = more (TypedParam names) c.locals _ g.locals s; fields = g.fields; self_type = g.self_type }

  record Returned (v : Option Expr) (o : Option PortableExpr) : Type 0 where
    good : AllOption (TypedNested names 32) o
    small : length (statement_words (PortableStatement.return o)) ≤ growth * length (stored_statement_words (Statement.return v))

  return_ends : (strings : ℕ) (c : FunctionContext) → GoodContext names c → (returns : Option ResolvedType) → AllOption (Stored names) returns → (v : Option Expr)
      → GoodStatement names strings (Statement.return v) → Ends Short (project_return c returns v) (Returned v)
  unfolding project_return statement_words stored_statement_words
  return_ends strings c g none h none s = ends.ok_ends none _ (record { good = tt; small = omega arith })
  return_ends strings c g none h (some e) s = ends.err_ends _ (omega arith)
  return_ends strings c g (some t) h none s = ends.err_ends _ (omega arith)
  return_ends strings c g (some t) h (some e) s = ends.then_ends (infer_ends names c g strings e (some t) 4 s.good h) (λ value i.
      ends.ok_ends (some value) _ (record { good = record { good = i.good; deep = omega (arith, i.deep, s.deep) }; small = omega (arith, i.small) }))

  field_ends : (f : ℕ) (p : Place) → Ends Short (assigned_field f p) (λ _. Unit {0})
  unfolding assigned_field
  field_ends f (of_local x) = ends.err_ends _ (omega arith)
  field_ends f of_self = ends.err_ends _ (omega arith)
  field_ends f (of_field x) = ends.ok_ends x _ tt
  field_ends f nowhere = ends.err_ends _ (omega arith)

  -- one statement in front of others
  in_front : (s : Statement) (ss : List Statement) (p : PortableStatement) (ps : List PortableStatement) → TypedStatement names p
      → length (statement_words p) ≤ growth * length (stored_statement_words s) → Projected ss ps → Projected (s ∷ ss) (p ∷ ps)
  unfolding each
  in_front s ss p ps g l h = record {
    few = omega (arith, h.few);
    good = (g, h.good);
    small = omega (arith, h.small, length-append (statement_words p) (each statement_words ps), length-append (stored_statement_words s) (each stored_statement_words ss));
  }

  let_small : (x : ℕ) (t : Option ResolvedType) (e : Expr) (v : PortableExpr) → length (run (type_of v)) ≤ 64 → length (value_words v) ≤ growth * length (expr_words e)
      → length (statement_words (PortableStatement.let_local x (type_of v) v)) ≤ growth * length (stored_statement_words (Statement.let_local x t e))
  unfolding statement_words stored_statement_words
  let_small x t e v l m = omega (arith, length-append (run (type_of v)) (value_words v), length-append (optional run t) (expr_words e))

  assign_small : (f : ℕ) (target e : Expr) (v : PortableExpr) → length (value_words v) ≤ growth * length (expr_words e)
      → length (statement_words (PortableStatement.assign_self_field f v)) ≤ growth * length (stored_statement_words (Statement.assign target e))
  unfolding statement_words stored_statement_words
  assign_small f target e v m = omega (arith, length-append (expr_words target) (expr_words e))

  nothing : Projected [] []
  unfolding each
  nothing = record { few = omega arith; good = tt; small = omega arith }

  -- a return ends the statements
  alone : (v : Option Expr) (ss : List Statement) (o : Option PortableExpr) → AllOption (TypedNested names 32) o
      → length (statement_words (PortableStatement.return o)) ≤ growth * length (stored_statement_words (Statement.return v)) → Projected (Statement.return v ∷ ss) (PortableStatement.return o ∷ [])
  unfolding each
  alone v ss o g l = record {
    few = omega arith;
    good = (g, tt);
    small = omega (arith, length-append (statement_words (PortableStatement.return o)) [], length-append (stored_statement_words (Statement.return v)) (each stored_statement_words ss));
  }

  pub statements_end : (strings : ℕ) (returns : Option ResolvedType) → AllOption (Stored names) returns → (c : FunctionContext) → GoodContext names c
      → (ss : List Statement) → All (GoodStatement names strings) ss → Ends Short (project_statements returns c ss) (Projected ss)
  unfolding project_statements
  statements_end strings returns h c g [] s = ends.ensure_ends (not (is_some returns)) _ _ (omega arith) (λ e. ends.ok_ends [] _ nothing)
  statements_end strings returns h c g (Statement.expr e ∷ ss) s = ends.err_ends _ (omega arith)
  statements_end strings returns h c g (Statement.let_local x t e ∷ ss) s =
      ends.ensure_ends (not (is_some (find_last x c.locals))) _ _ (omega arith) (λ _.
      ends.then_ends (infer_ends names c g strings e t 3 s.0.2.good s.0.1) (λ value i.
      let u = type_of_stored names value i.good in
      ends.then_ends (statements_end strings returns h (with_local c x (type_of value)) (with_local_good c x (type_of value) g u) ss s.1) (λ rest j.
      ends.ok_ends _ _ (in_front _ ss _ rest (u, record { good = i.good; deep = omega (arith, i.deep, s.0.2.deep) }) (let_small x t e value u.short i.small) j))))
  statements_end strings returns h c g (Statement.return v ∷ ss) s =
      ends.then_ends (return_ends strings c g returns h v s.0) (λ value i.
      ends.ensure_ends (is_empty ss) _ _ (omega arith) (λ _.
      ends.ok_ends _ _ (alone v ss value i.good i.small)))
  statements_end strings returns h c g (Statement.assign target e ∷ ss) s =
      ends.then_ends (field_ends c.function (place target)) (λ f _.
      ends.then_ends (ends.refuse_ends (Stored names) (find_last f c.fields) _ (omega arith) (find_last_stored names f c.fields g.fields)) (λ t u.
      ends.then_ends (infer_ends names c g strings e (some t) 5 s.0.1.good u) (λ value i.
      ends.then_ends (statements_end strings returns h c g ss s.1) (λ rest j.
      ends.ok_ends _ _ (in_front _ ss _ rest (record { good = i.good; deep = omega (arith, i.deep, s.0.1.deep) }) (assign_small f target e value i.small) j)))))
