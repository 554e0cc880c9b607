-- A Let's tests, one by one. Assumes nothing.
use Prim.Native.Nat.{ℕ, ◌<◌, ◌≤◌}
use mathlib.Core.Path.{◌≡◌, ap, ◌∙◌}
use mathlib.Core.Bool.{true, false, not}
use mathlib.Core.List.{List}
use mathlib.Core.Option.{Option}
use Rattle.rules.specs.Syntax.{ResolvedType, Param}
use Rattle.rules.specs.Options.{is_some}
use Rattle.rules.specs.Refusal.{Result, ok, err, ◌>>=◌, with_name}
use Rattle.rules.specs.Infer.{PortableExpr}
use Rattle.answers.specs.declared.answer.Outcome.{Outcome}
use Rattle.answers.specs.Refusals.{refusal_of}
use Rattle.infer_result.specs.declared.inferred.Inferred.{Inferred}
use Rattle.infer_result.specs.Says as says
use Rattle.infer_result.specs.Says.{Says}
use Rattle.locals.specs.Rows.{Last}
use Rattle.project_outcome.specs.Outcomes.{test_of, Passes}
use Rattle.project_outcome.proofs.Passing.{passed, refused}
use Rattle.project_let_tests.specs.LetTests.{no_local}

-- 18, by the row k of the last local of that name
module _ {rows : ℕ} {names words lens : List ℕ} {count x : ℕ} {ps : List (Param ResolvedType)} {k : ℕ} (w : Last rows names words lens count x ps k) (f : ℕ) (r : Outcome) where
  pub local_seen : k < count → r.ok ≡ false → refusal_of r.refusal ≡ with_name 18 f x → Passes (no_local f x ps) r
  unfolding is_some
  local_seen h o q = refused _ _ r (ap (λ (u : Option ResolvedType). not (is_some u)) (w.found h).2) o q

  pub local_free : count ≤ k → r.ok ≡ true → Passes (no_local f x ps) r
  unfolding is_some
  local_free h o = passed _ _ r (ap (λ (u : Option ResolvedType). not (is_some u)) (w.missing h)) o

-- what typing said of a value, as a test
module _ (rows f : ℕ) (r : Inferred) (o : Outcome) where
  pub value_refused : (p : Result PortableExpr) → Says rows f p r → (r.number ≡ 0 → ⊥) → (o.ok ≡ false) × (refusal_of o.refusal ≡ says.refusal_of f r) → Passes (test_of p) o
  unfolding ◌>>=◌
  value_refused (ok v) h n d = absurd (n h.0)
  value_refused (err e) h n d = record { is = (d.0, d.1 ∙ h.1) }

  pub value_passes : (p : Result PortableExpr) → Says rows f p r → r.number ≡ 0 → o.ok ≡ true → Passes (test_of p) o
  unfolding ◌>>=◌
  value_passes (ok v) h n y = record { is = y }
  value_passes (err e) h n y = absurd (h.0 n)
