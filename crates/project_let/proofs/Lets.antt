-- A Let, by its tests and the row that it enters.
use Prim.Native.Nat.{ℕ, ◌+◌, ◌<◌}
use mathlib.Core.Path.{◌≡◌, refl, sym, ap, subst, ◌∙◌}
use mathlib.Core.Bool.{true, false}
use mathlib.Core.List.{List, [], ◌∷◌, ◌++◌}
use mathlib.Core.Option.{Option}
use lib.ListN.{length, get_or}
use Rattle.rules.specs.Syntax.{ResolvedType, run, Expr, Statement}
use Rattle.rules.specs.Refusal.{Refusal, Result, ok, err, ◌>>=◌}
use Rattle.rules.specs.Infer.{PortableExpr, type_of, FunctionContext, infer_expr}
use Rattle.rules.specs.Bodies.{PortableStatement, with_local}
use Rattle.rules.specs.Output.{value_words, statement_words}
use Rattle.type_words.specs.Runs.{Runs}
use Rattle.type_words.specs.Holds.{Holds}
use Rattle.image_layout.specs.declared.Layout.{Layout}
use Rattle.infer_result.specs.declared.inferred.Inferred.{Inferred}
use Rattle.infer_result.specs.Says.{Says}
use Rattle.write_expr_type.proofs.Arms.{held_runs}
use Rattle.image_words.specs.Gives.{MaybeAt}
use Rattle.pool_types.specs.TypeAt.{TypeStands}
use Rattle.locals.specs.Rows.{Rows}
use Rattle.write_words.specs.Written.{Written}
use Rattle.write_words.proofs.Written.{written_then}
use Rattle.pool_bodies.specs.StatementAt.{StatementStands}
use Rattle.infer_context.specs.declared.Context.{Context}
use Rattle.infer_context.specs.InContext.{InContext}
use Rattle.infer_context.specs.Stood.{Stood}
use Rattle.project_let.specs.declared.Step.{Step}
use Rattle.project_let.specs.Made.{Made, made_let, let_words}
use Rattle.project_let.specs.Agree.{counted, StepAgrees, Steps}
use Rattle.answers.specs.declared.answer.Outcome.{Outcome}
use Rattle.project_outcome.specs.Outcomes.{test_of, Passes}
use Rattle.project_let_tests.specs.LetTests.{no_local}
use Rattle.project_outcome.proofs.Passing.{not_passed, was_passed, all_refused, all_passed}

-- name and type, then the value
pub written_let : {limit to : ℕ} {xs ys zs us : List ℕ} {a b d : ℕ} (x : ℕ) (v : PortableExpr)
    → Written limit to (1 ∷ x ∷ []) xs a ys → Written limit a (run (type_of v)) ys b zs → Written limit b (value_words v) zs d us → Written limit to (let_words x v) xs d us
unfolding let_words statement_words
written_let {limit} {to} {xs} {ys} {zs} {us} {a} x v h t w = written_then limit to h (written_then limit a t w)

-- 18, then the value
abbrev let_tests : FunctionContext → ℕ → Option ResolvedType → Expr → Result (Unit {0})
let_tests c x t e = no_local c.function x c.locals >>= λ _. test_of (infer_expr c e t 3)

pub let_tested : (c : FunctionContext) (x : ℕ) (t : Option ResolvedType) (e : Expr) (rows : ℕ) {f : ℕ} → f ≡ c.function → (r : Inferred) {o : Outcome}
    → ((p : Result PortableExpr) → Says rows f p r → Passes (no_local f x c.locals >>= λ _. test_of p) o) → Says rows c.function (infer_expr c e t 3) r → Passes (let_tests c x t e) o
let_tested c x t e rows q r {o} v h =
    subst (λ (k : ℕ). Passes (no_local k x c.locals >>= λ _. test_of (infer_expr c e t 3)) o) q (v (infer_expr c e t 3) (subst (λ (k : ℕ). Says rows k (infer_expr c e t 3) r) (sym q) h))

module _ (c : FunctionContext) (x : ℕ) (t : Option ResolvedType) (e : Expr) where
  let_err : {z : Refusal} → let_tests c x t e ≡ err z → made_let c x t e ≡ err z
  unfolding made_let
  let_err h = all_refused _ _ _ h

  let_ok : let_tests c x t e ≡ ok tt → (v : PortableExpr) × (infer_expr c e t 3 ≡ ok v) × (made_let c x t e ≡ ok (PortableStatement.let_local x (type_of v) v, with_local c x (type_of v)))
  unfolding made_let
  let_ok h = all_passed _ _ _ h

same_let : (c : FunctionContext) (t : Option ResolvedType) (e : Expr) (x z : ℕ) → z ≡ x → made_let c x t e ≡ made_let c z t e
same_let c t e x z q = ap (λ (j : ℕ). made_let c j t e) (sym q)

-- over the table before, and after
module _ (l : Layout) (names words lens : List ℕ) (y : Context) (c : FunctionContext) (i : InContext l names words lens y c) {names' words' lens' : List ℕ} where
  entered : (x : ℕ) (u : ResolvedType) → Rows l.names.rows names' words' lens' (y.count + 1) 0 (c.locals ++ (record { name = x; ty = u } ∷ [])) → InContext l names' words' lens' (counted y (y.count + 1)) (with_local c x u)
  unfolding with_local
  entered x u r = record {
    function = i.function;
    locals = r;
    fields_end = i.fields_end;
    fields = i.fields;
    target_end = i.target_end;
    target = i.target;
    stored = i.stored;
  }

  module _ {limit to : ℕ} {old new : List ℕ} {s : Step} where
    steps_same : {made other : Result Made} → made ≡ other → StepAgrees l names' words' lens' y limit to old new s 1 other → Steps l names' words' lens' y limit to old new s 1 made
    steps_same q h = record { is = subst (StepAgrees l names' words' lens' y limit to old new s 1) (sym q) h }

    -- z is the name as the code reads it, o what the tests came to
    module _ {x : ℕ} {z : ℕ} (q : z ≡ x) (t : Option ResolvedType) (e : Expr) {o : Outcome} (p : Passes (let_tests c z t e) o) where
      pub let_refused : o.ok ≡ false → s.done ≡ o → Steps l names' words' lens' y limit to old new s 1 (made_let c x t e)
      let_refused n d = steps_same (same_let c t e _ z q ∙ let_err c z t e (not_passed p n)) (rw d (n, refl))

      pub let_entered : o.ok ≡ true → (r : Inferred) → Says l.names.rows c.function (infer_expr c e t 3) r → {d : ℕ}
          → ((v : PortableExpr) → infer_expr c e t 3 ≡ ok v → Runs r.ty (run (type_of v)) → Written limit to (let_words z v) old d new)
          → ((u : ResolvedType) → Holds l.names.rows r.ty u → Rows l.names.rows names' words' lens' (y.count + 1) 0 (c.locals ++ (record { name = z; ty = u } ∷ [])))
          → s.done.ok ≡ true → s.done.length ≡ d → s.count ≡ y.count + 1 → Steps l names' words' lens' y limit to old new s 1 (made_let c x t e)
      unfolding let_words
      let_entered k r h {d} g a f m n =
          let v = let_ok c z t e (was_passed p k) in
          let u = type_of v.0 in
          let i : Says l.names.rows c.function (ok v.0) r = subst (λ (w : Result PortableExpr). Says l.names.rows c.function w r) v.1 h in
          steps_same (same_let c t e _ z q ∙ v.2) (
            f,
            n,
            subst (λ (j : ℕ). Written limit to (let_words z v.0) old j new) (sym m) (g v.0 v.1 (held_runs i.1)),
            subst (λ (j : ℕ). InContext l names' words' lens' (counted y j) (with_local c z u)) (sym n) (entered z u (a u i.1)),
          )

-- where its parts stand
module _ {rows strings : ℕ} {ws : List ℕ} {at n x : ℕ} {t : Option ResolvedType} {e : Expr} (s : StatementStands rows strings ws (Statement.let_local x t e) at n) where
  pub name_at : (k : ℕ) → (at < length ws → k ≡ get_or ws (at + 1) 0) → k ≡ x
  name_at k a = a s.parts.0.inside ∙ s.parts.1.0.is

  abbrev pub type_end : ℕ
  type_end = s.parts.2

  pub type_at : (j : ℕ) → (at + 1 < length ws → j ≡ at + 1 + 1) → MaybeAt ws (TypeStands rows ws) t j type_end
  type_at j a = subst (λ (k : ℕ). MaybeAt ws (TypeStands rows ws) t k type_end) (sym (a s.parts.1.0.inside)) s.parts.3

  pub let_value : (j : ℕ) → j ≡ type_end → Stood rows strings ws 32 e j n
  let_value j q = subst (λ (k : ℕ). Stood rows strings ws 32 e k n) (sym q) (record { words_at = s.parts.4.words_at; nested = s.parts.4.good })
