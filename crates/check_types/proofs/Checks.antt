-- One parameter and the returns, by what was held of them. Assumes nothing.
use Prim.Native.Nat.{ℕ}
use mathlib.Core.Path.{◌≡◌, ap₂, ◌∙◌}
use mathlib.Core.Bool.{true, false}
use mathlib.Core.List.{List, ◌∷◌, ◌++◌}
use mathlib.Core.Option.{Option}
use Rattle.rules.specs.Syntax.{ResolvedType, Param}
use Rattle.rules.specs.Types.{same_type, same_return, return_words, normalize_return}
use Rattle.rules.specs.Refusal.{with_detail}
use Rattle.type_words.specs.declared.HeldType.{HeldType}
use Rattle.type_words.specs.Runs.{held_run}
use Rattle.type_words.specs.Holds.{Holds}
use Rattle.answers.specs.declared.answer.Outcome.{Outcome}
use Rattle.answers.specs.Refusals.{refusal_of}
use Rattle.project_outcome.specs.Outcomes.{Passes, FirstRefusal}
use Rattle.project_outcome.proofs.Passing.{passed, refused, in_order}
use Rattle.check_types.specs.Details.{type_detail}
use Rattle.check_types.specs.Params.{check_name, check_type, check_param}
use Rattle.check_types.specs.Returns.{check_return}

-- types that differ, by what was held of them
pub other_type : (f name rows : ℕ) (a e : ResolvedType) (actual expected : HeldType) → Holds rows actual a → Holds rows expected e → (r : Outcome) → same_type a e ≡ false → r.ok ≡ false
    → refusal_of r.refusal ≡ type_detail f name (held_run expected) (held_run actual) → Passes (check_type f name e a) r
other_type f name rows a e actual expected h i r d o q = refused _ _ r d o (q ∙ ap₂ (λ (v w : List ℕ). type_detail f name v w) i.run h.run)

-- the name, then the type, by the names as the code has them
pub name_then_type : (f : ℕ) (a e : Param ResolvedType) {found wanted : ℕ} → found ≡ a.name → wanted ≡ e.name → {n t r : Outcome} → FirstRefusal n t r
    → Passes (check_name f wanted found) n → Passes (check_type f wanted e.ty a.ty) t → Passes (check_param f a e) r
unfolding check_param
name_then_type f a e x y o p q = rw (← x, ← y) (in_order o p q)

module _ (f : ℕ) (a e : Option ResolvedType) (r : Outcome) where
  pub other_return : same_return (normalize_return a) e ≡ false → r.ok ≡ false → refusal_of r.refusal ≡ with_detail 6 f (4 ∷ (return_words e ++ return_words (normalize_return a))) → Passes (check_return f a e) r
  unfolding check_return
  other_return d o q = refused _ _ r d o q

  pub alike_return : same_return (normalize_return a) e ≡ true → r.ok ≡ true → Passes (check_return f a e) r
  unfolding check_return
  alike_return t o = passed _ _ r t o
