-- A typed value's words, by what typing says.
use Prim.Native.Nat.{ℕ}
use mathlib.Core.Path.{◌≡◌, sym, ap, subst, ◌∙◌}
use mathlib.Core.Bool.{true, false}
use mathlib.Core.List.{List}
use mathlib.Core.Option.{Option}
use Rattle.rules.specs.Syntax.{ResolvedType, run, Expr}
use Rattle.rules.specs.Refusal.{Refusal, Result, ok, err, ◌>>=◌}
use Rattle.rules.specs.Infer.{PortableExpr, type_of, FunctionContext, infer_expr}
use Rattle.rules.specs.Output.{value_words}
use Rattle.type_words.specs.Runs.{Runs}
use Rattle.answers.specs.declared.answer.Outcome.{Outcome}
use Rattle.answers.specs.Refusals.{refusal_of}
use Rattle.infer_result.specs.declared.inferred.Inferred.{Inferred}
use Rattle.infer_result.specs.Says as says
use Rattle.infer_result.specs.Says.{Says}
use Rattle.write_expr_type.proofs.Arms.{held_runs}
use Rattle.write_words.specs.Written.{Written}
use Rattle.project_outcome.specs.Outcomes.{ComesTo}
use Rattle.project_statement.specs.Made.{value_of}
use Rattle.project_outcome.proofs.Coming.{comes_err, comes_ok}
use Rattle.project_outcome.proofs.Said.{said_err, said_ok}

module _ (c : FunctionContext) (e : Expr) (o : Option ResolvedType) (context : ℕ) where
  pub value_err : {z : Refusal} → infer_expr c e o context ≡ err z → value_of c e o context ≡ err z
  unfolding value_of ◌>>=◌
  value_err q = ap (λ (p : Result PortableExpr). p >>= λ v. ok (value_words v)) q

  pub value_ok : {v : PortableExpr} → infer_expr c e o context ≡ ok v → value_of c e o context ≡ ok (value_words v)
  unfolding value_of ◌>>=◌
  value_ok q = ap (λ (p : Result PortableExpr). p >>= λ v. ok (value_words v)) q

  module _ (rows : ℕ) (r : Inferred) (h : Says rows c.function (infer_expr c e o context) r) {limit to : ℕ} {old new : List ℕ} {d : Outcome} where
    pub value_refused : (r.number ≡ 0 → ⊥) → {f : ℕ} → f ≡ c.function → (d.ok ≡ false) × (refusal_of d.refusal ≡ says.refusal_of f r) → ComesTo (value_of c e o context) limit to old new d
    value_refused n q w = comes_err (value_err (said_err rows c.function _ r h n)) w.0 (w.1 ∙ ap (λ (k : ℕ). says.refusal_of k r) q)

    pub value_written : r.number ≡ 0 → {k : ℕ} → ((v : PortableExpr) → infer_expr c e o context ≡ ok v → Runs r.ty (run (type_of v)) → Written limit to (value_words v) old k new)
        → d.ok ≡ true → d.length ≡ k → ComesTo (value_of c e o context) limit to old new d
    value_written n {k} w t q =
        let v = said_ok rows c.function _ r h n in
        comes_ok (value_ok v.is) t (subst (λ (j : ℕ). Written limit to (value_words v.value) old j new) (sym q) (w v.value v.is (held_runs v.held)))
