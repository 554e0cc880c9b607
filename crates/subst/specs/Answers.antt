-- A whole expression's answer is the rules'.
use Rattle.std.specs.Prelude.{ℕ, ◌≡◌, List, Option, None, IsSomeAnd}
use Rattle.rules.specs.Syntax.{ResolvedType, TypeExpr, Param, CompiledSchema}
use Rattle.rules.specs.Substitute.{Counted, too_large, done, substitute_type}
use Rattle.image_layout.specs.declared.Layout.{Layout}
use Rattle.image_layout.specs.Open.{Open, pool_words}
use Rattle.type_words.specs.Holds.{Holds}
use Rattle.subst_params.specs.Views.{Views}
use Rattle.type_from_pool.specs.Held.{ExprStands}
use Rattle.subst.specs.declared.whole.Substituted.{Substituted}

-- nothing where a bound is passed
abbrev pub Answers : ℕ → ℕ → Counted ResolvedType → Option Substituted → Type 0
Answers names n too_large r = r ≡ None
Answers names n (done visits t) r = IsSomeAnd r (λ s. (s.visits ≡ visits) × (s.next ≡ n) × Holds names s.ty t)

-- for each schema that the image holds, type parameters in view, and expression that stands at `at`
abbrev pub AnswersAll : Layout → ℕ → List ℕ → Option Substituted → Type 0
AnswersAll l at params r =
    (s : CompiledSchema) → Open l s → (ps : List (Param ResolvedType)) → Views l.names.rows params 0 ps
    → (e : TypeExpr) (n : ℕ) → ExprStands l.names.rows (pool_words l) e at n → Answers l.names.rows n (substitute_type s ps e) r
