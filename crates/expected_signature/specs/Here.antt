-- What stands at a place of the pool, with its schema and the type parameters in view.
use Rattle.std.specs.Prelude.{ℕ, List}
use Rattle.rules.specs.Syntax.{ResolvedType, TypeExpr, CompiledSchema, Param}
use Rattle.image_words.specs.Gives.{Counted}
use Rattle.image_layout.specs.declared.Layout.{Layout}
use Rattle.image_layout.specs.Open.{Open, pool_words}
use Rattle.pool_type_exprs.specs.TypeExprAt.{TypeExprStands}
use Rattle.pool_types.specs.ParamAt.{ParamAt}
use Rattle.pool_traits.specs.TraitAt.{TraitReturnAt, TraitFunctionStands}
use Rattle.subst_params.specs.Views.{Views}

-- over the image, its layout and the table of type parameters: a tree stands at `at`, by Q
pub record Here (l : Layout) (params : List ℕ) {A : Type 0} (Q : A → ℕ → ℕ → Type 0) (at : ℕ) : Type 0 where
  pub schema : CompiledSchema
  pub opened : Open l schema
  pub seen : List (Param ResolvedType)
  pub views : Views l.names.rows params 0 seen
  pub tree : A
  pub behind : ℕ
  pub stands : Q tree at behind

module _ (l : Layout) where
  -- a name and a type expression
  abbrev pub ParamStands : Param TypeExpr → ℕ → ℕ → Type 0
  ParamStands = ParamAt l.names.rows (pool_words l) (TypeExprStands l.names.rows (pool_words l))

  module _ (params : List ℕ) where
    abbrev pub ParamHere : ℕ → Type 0
    ParamHere = Here l params ParamStands

    abbrev pub ParamsHere : ℕ → Type 0
    ParamsHere = Here l params (Counted (pool_words l) 32 ParamStands)

    abbrev pub ReturnHere : ℕ → Type 0
    ReturnHere = Here l params (TraitReturnAt l.names.rows (pool_words l))

    abbrev pub FunctionHere : ℕ → Type 0
    FunctionHere = Here l params (TraitFunctionStands l.names.rows (pool_words l))
