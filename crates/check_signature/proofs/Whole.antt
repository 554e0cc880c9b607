-- A whole signature: the counts, the parameters, the returns.
use Prim.Native.Nat.{ℕ, ◌+◌, ◌<◌, ◌≤◌}
use mathlib.Core.Path.{◌≡◌, sym, ap, ap₂, subst, ◌∙◌}
use mathlib.Core.Bool.{true, false}
use mathlib.Core.List.{List, [], ◌∷◌}
use native.Mathlib.Omega.{arith}
use lib.ListN.{length, get_or}
use borrow.Author.Tests.{eq-eqb, ne_eqb}
use Rattle.rules.specs.Syntax.{ResolvedType, Param, ImplFnDef}
use Rattle.rules.specs.Refusal.{Result, ◌>>=◌, ensure, with_detail}
use Rattle.rules.specs.Signatures.{PortableSignature}
use Rattle.rules.specs.CheckSignature.{check_params, check_signature}
use Rattle.answers.specs.declared.answer.Outcome.{Outcome}
use Rattle.answers.specs.Refusals.{refusal_of}
use Rattle.project_outcome.specs.Outcomes.{Passes}
use Rattle.image_words.specs.Gives.{Row, MaybeAt}
use Rattle.pool_types.specs.TypeAt.{TypeStands}
use Rattle.pool_types.specs.ParamAt.{ParamAt}
use Rattle.pool_definitions.specs.DefinitionAt.{FunctionStands}
use Rattle.locals.specs.Rows.{Rows}
use Rattle.check_signature.proofs.ParamsLaws.{rows_count, rows_few}
use Rattle.project_outcome.proofs.Passing.{refused, stopped, passed_then}
use Rattle.check_types.specs.Returns.{check_return}

-- a function and its signature, whose name is known
module _ (f : ImplFnDef) (sig : PortableSignature) (name : ℕ) (is : sig.name ≡ name) where
  pub other_count : (found wanted : ℕ) → found ≡ length f.params → wanted ≡ length sig.params → (found ≡ wanted → ⊥) → (r : Outcome) → r.ok ≡ false
      → refusal_of r.refusal ≡ with_detail 6 name (1 ∷ wanted ∷ found ∷ []) → Passes (check_signature f sig) r
  unfolding check_signature
  other_count found wanted x y n r o q =
      stopped _ _ r (refused _ _ r (ne_eqb _ _ (λ z. n (x ∙ z ∙ sym y))) o
      (q ∙ ap₂ (λ (v w : ℕ). with_detail 6 name (1 ∷ v ∷ w ∷ [])) y x ∙ ap (λ (k : ℕ). with_detail 6 k (1 ∷ length sig.params ∷ length f.params ∷ [])) (sym is))) o

  module _ (same : length f.params ≡ length sig.params) where
    behind_count : {r : Outcome} → Passes (check_params name f.params sig.params >>= λ _. check_return name f.return_type sig.return_type) r → Passes (check_signature f sig) r
    unfolding check_signature check_return ensure ◌>>=◌
    behind_count p = rw (is, eq-eqb (length f.params) (length sig.params) same) p

    pub other_params : (r : Outcome) → Passes (check_params name f.params sig.params) r → r.ok ≡ false → Passes (check_signature f sig) r
    other_params r p o = behind_count (stopped _ _ r p o)

    pub alike_params : (q : Outcome) → Passes (check_params name f.params sig.params) q → q.ok ≡ true → (r : Outcome) → Passes (check_return name f.return_type sig.return_type) r → Passes (check_signature f sig) r
    alike_params q p o r h = behind_count (subst (λ (t : Result (Unit {0})). Passes t r) (sym (passed_then _ (λ _. check_return name f.return_type sig.return_type) q p o)) h)

-- what the code reads of a function that stands in the pool
module _ (names strings : ℕ) (ws : List ℕ) (f : ImplFnDef) (at n : ℕ) (h : FunctionStands names strings ws f at n) where
  module _ (start : ℕ) (after : at < length ws → start ≡ at + 1) where
    pub count_read : (w : ℕ) → w ≡ get_or ws start 0 → w ≡ length f.params
    count_read w e = e ∙ ap (λ (k : ℕ). get_or ws k 0) (after h.parts.name_at.inside) ∙ h.parts.params_at.0.is

    pub params_there : (place : ℕ) → (start < length ws → place ≡ start + 1) → Row (ParamAt names ws (TypeStands names ws)) f.params place h.parts.params_end
    params_there place next =
        let s : start ≡ at + 1 = after h.parts.name_at.inside in
        let p : place ≡ at + 1 + 1 = next (omega (arith, h.parts.params_at.0.inside)) ∙ ap (λ (k : ℕ). k + 1) s in
        subst (λ (k : ℕ). Row (ParamAt names ws (TypeStands names ws)) f.params k h.parts.params_end) (sym p) h.parts.params_at.2

  pub return_there : {place : ℕ} → place ≡ h.parts.params_end → MaybeAt ws (TypeStands names ws) f.return_type place h.parts.return_end
  return_there e = subst (λ (k : ℕ). MaybeAt ws (TypeStands names ws) f.return_type k h.parts.return_end) (sym e) h.parts.return_at

-- the word for the count of a table's rows
pub count_word : (rows : ℕ) (names words lens : List ℕ) (count : ℕ) (es : List (Param ResolvedType)) → Rows rows names words lens count 0 es → (w : ℕ) → (count ≤ 64 → w ≡ count) → w ≡ length es
count_word rows names words lens count es t w e = omega (arith, e (rows_few rows names words lens count 0 es t (omega arith)), rows_count rows names words lens count 0 es t)
