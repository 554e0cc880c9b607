-- The words of typed statements are small where the words of what they came from are.
use Prim.Native.Nat.{ℕ, ◌<◌}
use mathlib.Core.Path.{◌≡◌, refl, subst}
use mathlib.Core.Bool.{not}
use mathlib.Core.List.{List, [], ◌∷◌, ◌++◌}
use mathlib.Core.Option.{Option, none, some}
use Rattle.rules.specs.Syntax.{ResolvedType, run, Expr, Statement}
use Rattle.rules.specs.Options.{is_some}
use Rattle.rules.specs.Infer.{type_of, FunctionContext, find_last, Place, of_local, of_self, of_field, nowhere, place}
use Rattle.rules.specs.Bodies.{PortableStatement, is_empty, with_local, project_return, assigned_field, project_statements}
use Rattle.rules.specs.Output.{value_words, statement_words}
use Rattle.rules.specs.Good.{All, AllOption}
use Rattle.rules.specs.Exact.{optional}
use Rattle.laws.specs.Runs.{expr_words, stored_statement_words}
use Rattle.laws_answers.proofs.Ends as ends
use Rattle.laws_answers.proofs.Ends.{Ends, Any}
use Rattle.laws_answers.proofs.Erased.{target_field}
use Rattle.promises.proofs.Small.{WORD, Small, all_append, small_append, small_left, small_right, small_optional}
use Rattle.promises.proofs.SmallSchema.{SmallType, SmallParam}
use Rattle.promises.proofs.SmallValues.{SmallContext, small_type_of, small_last, small_inferred}

-- a statement as the pool holds it, and as it is written
abbrev pub SmallStored : Statement → Type 0
SmallStored s = Small (stored_statement_words s)

abbrev pub SmallStatement : PortableStatement → Type 0
SmallStatement s = Small (statement_words s)

-- an assigned field's name stands among its target's words
small_field : (f : ℕ) (target : Expr) → Small (expr_words target) → Ends Any (assigned_field f (place target)) (λ x. x < WORD)
unfolding assigned_field expr_words
small_field f target h = go (place target) refl
  where
    go : (p : Place) → place target ≡ p → Ends Any (assigned_field f p) (λ x. x < WORD)
    go (of_local x) e = ends.err_ends _ tt
    go of_self e = ends.err_ends _ tt
    go (of_field x) e =
        let field : Small (7 ∷ x ∷ 6 ∷ []) = subst (λ (t : Expr). Small (expr_words t)) (target_field target x e) h in
        ends.ok_ends x _ field.1.0
    go nowhere e = ends.err_ends _ tt

small_with : (c : FunctionContext) (x : ℕ) (t : ResolvedType) → SmallContext c → x < WORD → SmallType t → SmallContext (with_local c x t)
unfolding with_local
small_with c x t small l f = record { locals = all_append SmallParam c.locals _ small.locals ((l, f), tt); fields = small.fields; self_type = small.self_type }

small_return : (c : FunctionContext) → SmallContext c → (t : Option ResolvedType) (v : Option Expr) → AllOption SmallType t → Small (2 ∷ optional expr_words v)
    → Ends Any (project_return c t v) (λ w. SmallStatement (PortableStatement.return w))
unfolding project_return statement_words
small_return c small none none f h = ends.ok_ends none _ h
small_return c small none (some e) f h = ends.err_ends _ tt
small_return c small (some t) none f h = ends.err_ends _ tt
small_return c small (some t) (some e) f h = ends.then_ends (small_inferred c small e (some t) 4 f h.1.1) (λ v a. ends.ok_ends (some v) _ (h.0, (h.1.0, a)))

pub small_statements : (t : Option ResolvedType) → AllOption SmallType t → (c : FunctionContext) → SmallContext c → (ss : List Statement) → All SmallStored ss
    → Ends Any (project_statements t c ss) (All SmallStatement)
unfolding project_statements stored_statement_words statement_words
small_statements t f c small [] h = ends.ensure_ends (not (is_some t)) _ _ tt (λ _. ends.ok_ends [] _ tt)
small_statements t f c small (Statement.expr e ∷ ss) h = ends.err_ends _ tt
small_statements t f c small (Statement.let_local x u e ∷ ss) h =
    let parts : Small (1 ∷ x ∷ (optional run u ++ expr_words e)) = h.0 in
    let written = small_optional run u (small_left (optional run u) (expr_words e) parts.1.1) in
    ends.ensure_ends (not (is_some (find_last x c.locals))) _ _ tt (λ _.
    ends.then_ends (small_inferred c small e u 3 written (small_right (optional run u) (expr_words e) parts.1.1)) (λ v a.
    ends.then_ends (small_statements t f (with_local c x (type_of v)) (small_with c x (type_of v) small parts.1.0 (small_type_of v a)) ss h.1) (λ rest b.
    ends.ok_ends _ (All SmallStatement) ((parts.0, (parts.1.0, small_append (run (type_of v)) (value_words v) (small_type_of v a) a)), b))))
small_statements t f c small (Statement.return v ∷ ss) h =
    ends.then_ends (small_return c small t v f h.0) (λ w a. ends.ensure_ends (is_empty ss) _ _ tt (λ _. ends.ok_ends _ (All SmallStatement) (a, tt)))
small_statements t f c small (Statement.assign target e ∷ ss) h =
    let parts : Small (3 ∷ (expr_words target ++ expr_words e)) = h.0 in
    ends.then_ends (small_field c.function target (small_left (expr_words target) (expr_words e) parts.1)) (λ x l.
    ends.then_ends (ends.refuse_ends SmallType (find_last x c.fields) _ tt (small_last x c.fields small.fields)) (λ u g.
    ends.then_ends (small_inferred c small e (some u) 5 g (small_right (expr_words target) (expr_words e) parts.1)) (λ v a.
    ends.then_ends (small_statements t f c small ss h.1) (λ rest b.
    ends.ok_ends _ (All SmallStatement) ((parts.0, (l, a)), b)))))
