-- A statement that is no Return, by its code; what it and those behind it come to.
use Prim.Native.Nat.{ℕ, ◌+◌, ◌<◌, ◌≤◌}
use native.Mathlib.Omega.{arith}
use mathlib.Core.Path.{◌≡◌, refl, sym, subst}
use mathlib.Core.Bool.{Bool, true, false, not}
use mathlib.Core.List.{List, ◌∷◌}
use mathlib.Core.Option.{Option, some}
use lib.ListN.{get_or}
use Rattle.rules.specs.Syntax.{ResolvedType, Expr, Statement}
use Rattle.rules.specs.Options.{is_some}
use Rattle.rules.specs.Refusal.{Refusal, Result, ok, err, ◌>>=◌, ensure, or_refuse, in_function, with_name}
use Rattle.rules.specs.Infer.{PortableExpr, type_of, FunctionContext, find_last, place, infer_expr}
use Rattle.rules.specs.Bodies.{PortableStatement, with_local, assigned_field, project_statements}
use Rattle.rules.specs.Output.{statement_words, each}
use Rattle.rules.specs.ReadBodies.{let_count}
use Rattle.laws.specs.Runs.{stored_statement_words}
use Rattle.image_words.proofs.Heads.{head}
use Rattle.image_layout.specs.declared.Layout.{Layout}
use Rattle.pool_bodies.specs.StatementAt.{StatementStands}
use Rattle.infer_context.specs.declared.Context.{Context}
use Rattle.infer_context.specs.InContext.{InContext}
use Rattle.project_outcome.specs.Outcomes.{WordsAgree, ComesTo}
use Rattle.project_let.specs.declared.Step.{Step}
use Rattle.project_statement.specs.Made.{made_assign, assign_words, block_words}
use Rattle.project_let.specs.Made.{Made, made_let}
use Rattle.project_function.specs.Made.{Passing}
use Rattle.project_let.specs.Agree.{counted, StepAgrees, Steps}
use Rattle.project_outcome.proofs.Coming.{behind}

-- a statement's words, then those of the statements in the context behind it
unfoldable pub follow : Result Made → (FunctionContext → Result (List ℕ)) → Result (List ℕ)
follow r k = r >>= λ p. behind (statement_words p.0) (k p.1)

module _ (c : FunctionContext) (k : FunctionContext → Result (List PortableStatement)) where
  abbrev in_words : Result (List PortableStatement) → Result (List ℕ)
  in_words r = r >>= λ ps. ok (each statement_words ps)

  first_o : (s : PortableStatement) (r : Result (List PortableStatement)) → in_words (r >>= λ rest. ok (s ∷ rest)) ≡ behind (statement_words s) (in_words r)
  unfolding ◌>>=◌ behind each
  first_o s (err e) = refl
  first_o s (ok ps) = refl

  let_o : (b : Bool) (z : Refusal) (p : Result PortableExpr) (x : ℕ)
      → in_words (ensure b z >>= λ _. p >>= λ v. k (with_local c x (type_of v)) >>= λ rest. ok (PortableStatement.let_local x (type_of v) v ∷ rest))
      ≡ follow (ensure b z >>= λ _. p >>= λ v. ok (PortableStatement.let_local x (type_of v) v, with_local c x (type_of v))) (λ d. in_words (k d))
  unfolding ◌>>=◌ ensure follow
  let_o false z p x = refl
  let_o true z (err e) x = refl
  let_o true z (ok v) x = unfold behind in first_o (PortableStatement.let_local x (type_of v) v) (k (with_local c x (type_of v)))

  assign_o : (f : Result ℕ) (t : ℕ → Result ResolvedType) (p : ResolvedType → Result PortableExpr)
      → in_words (f >>= λ f. t f >>= λ t. p t >>= λ v. k c >>= λ rest. ok (PortableStatement.assign_self_field f v ∷ rest))
      ≡ follow ((f >>= λ f. t f >>= λ t. p t >>= λ v. ok (PortableStatement.assign_self_field f v)) >>= λ q. ok (q, c)) (λ d. in_words (k d))
  unfolding ◌>>=◌ follow
  assign_o (err e) t p = refl
  assign_o (ok f) t p = typed (t f)
    where
      valued : (r : Result PortableExpr)
          → in_words (r >>= λ v. k c >>= λ rest. ok (PortableStatement.assign_self_field f v ∷ rest)) ≡ follow ((r >>= λ v. ok (PortableStatement.assign_self_field f v)) >>= λ q. ok (q, c)) (λ d. in_words (k d))
      valued (err e) = refl
      valued (ok v) = first_o (PortableStatement.assign_self_field f v) (k c)

      typed : (r : Result ResolvedType)
          → in_words (r >>= λ t. p t >>= λ v. k c >>= λ rest. ok (PortableStatement.assign_self_field f v ∷ rest)) ≡ follow ((r >>= λ t. p t >>= λ v. ok (PortableStatement.assign_self_field f v)) >>= λ q. ok (q, c)) (λ d. in_words (k d))
      typed (err e) = refl
      typed (ok t) = valued (p t)

pub passing_words : (o : Option ResolvedType) (c : FunctionContext) (ss : List Statement) (s : Statement) → Passing c s (λ made. block_words o c (s ∷ ss) ≡ follow made (λ d. block_words o d ss))
unfolding block_words project_statements made_let made_assign
passing_words o c ss (Statement.expr e) = (unfold ◌>>=◌ follow in refl)
passing_words o c ss (Statement.let_local x t e) = let_o c (λ d. project_statements o d ss) (not (is_some (find_last x c.locals))) (with_name 18 c.function x) (infer_expr c e t 3) x
passing_words o c ss (Statement.return v) = tt
passing_words o c ss (Statement.assign t e) =
    assign_o c (λ d. project_statements o d ss) (assigned_field c.function (place t)) (λ f. or_refuse (find_last f c.fields) (with_name 17 c.function f)) (λ u. infer_expr c e (some u) 5)

-- an assignment leaves the table as it is
pub steps_assign : (l : Layout) (names words lens : List ℕ) (y : Context) (c : FunctionContext) → InContext l names words lens y c → (t e : Expr) {limit to : ℕ} {old new : List ℕ} {s : Step}
    → ComesTo (assign_words c t e) limit to old new s.done → s.count ≡ y.count → Steps l names words lens y limit to old new s 0 (made_assign c t e >>= λ p. ok (p, c))
unfolding assign_words ◌>>=◌
steps_assign l names words lens y c i t e {limit} {to} {old} {new} {s} h q = record { is = go (made_assign c t e) h.is }
  where
    go : (p : Result PortableStatement) → WordsAgree (p >>= λ p. ok (statement_words p)) limit to old new s.done → StepAgrees l names words lens y limit to old new s 0 (p >>= λ p. ok (p, c))
    go (err z) h = h
    go (ok p) h = (h.0, omega (arith, q), h.1, subst (λ (k : ℕ). InContext l names words lens (counted y k) c) (sym q) i)

-- by the code that stands there
module _ (rows strings : ℕ) (ws : List ℕ) (at : ℕ) (c : FunctionContext) (P : ℕ → Result Made → Type 0) (count : ℕ) where
  abbrev Passed : Statement → Type 0
  Passed s = (n : ℕ) → StatementStands rows strings ws s at n → count + let_count s ≤ 64 → Passing c s (P (let_count s))

  pub by_let : get_or ws at 0 ≡ 1 → ((x : ℕ) (t : Option ResolvedType) (e : Expr) (n : ℕ) → StatementStands rows strings ws (Statement.let_local x t e) at n → count < 64 → P 1 (made_let c x t e)) → (s : Statement) → Passed s
  unfolding stored_statement_words let_count
  by_let q h (Statement.expr e) n s l = absurd (omega (arith, head s.words_at))
  by_let q h (Statement.let_local x t e) n s l = h x t e n s (omega arith)
  by_let q h (Statement.return v) n s l = tt
  by_let q h (Statement.assign t e) n s l = absurd (omega (arith, head s.words_at))

  pub by_assign : get_or ws at 0 ≡ 3 → ((t e : Expr) (n : ℕ) → StatementStands rows strings ws (Statement.assign t e) at n → P 0 (made_assign c t e >>= λ p. ok (p, c))) → (s : Statement) → Passed s
  unfolding stored_statement_words let_count
  by_assign q h (Statement.expr e) n s l = absurd (omega (arith, head s.words_at))
  by_assign q h (Statement.let_local x t e) n s l = absurd (omega (arith, head s.words_at))
  by_assign q h (Statement.return v) n s l = tt
  by_assign q h (Statement.assign t e) n s l = h t e n s

  pub by_other : (get_or ws at 0 ≡ 1 → ⊥) → (get_or ws at 0 ≡ 3 → ⊥) → P 0 (err (in_function 15 c.function)) → (s : Statement) → Passed s
  unfolding stored_statement_words let_count
  by_other a b h (Statement.expr e) n s l = h
  by_other a b h (Statement.let_local x t e) n s l = absurd (a (head s.words_at))
  by_other a b h (Statement.return v) n s l = tt
  by_other a b h (Statement.assign t e) n s l = absurd (b (head s.words_at))
