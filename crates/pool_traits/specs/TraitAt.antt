-- Which trait, and which function of one, stands where among some words; a `..-end` is the place behind a part.
use Rattle.std.specs.Prelude.{ℕ, ◌+◌, ◌<◌, ◌≡◌, true, List, map}
use Rattle.rules.specs.Words.{all_different}
use Rattle.rules.specs.Syntax.{TraitReturn, TraitFnDef, TraitDef}
use Rattle.laws.specs.DefinitionRuns.{trait_function_words, trait_words, GoodTraitFunction, GoodTrait}
use Rattle.image_words.specs.Gives.{Word, BelowAt, Counted}
use Rattle.image_words.specs.Stands.{Held}
use Rattle.pool_types.specs.TypeAt.{TypeStands}
use Rattle.pool_type_exprs.specs.TypeExprAt.{TypeExprStands}
use Rattle.pool_types.specs.ParamAt.{ParamAt}

-- over the number of name rows and the words
module _ (names : ℕ) (ws : List ℕ) where
  abbrev pub TraitReturnAt : TraitReturn → ℕ → ℕ → Type 0
  TraitReturnAt TraitReturn.no_return at n = Word ws at 0 × (n ≡ at + 1)
  TraitReturnAt (TraitReturn.resolved t) at n = Word ws at 1 × TypeStands names ws t (at + 1) n
  TraitReturnAt (TraitReturn.expression e) at n = Word ws at 2 × TypeExprStands names ws e (at + 1) n

  pub record TraitFunctionAt (f : TraitFnDef) (at n : ℕ) : Type 0 where
    pub name_at : Word ws at f.name
    pub name_below : f.name < names
    pub params_end : ℕ
    pub params_at : Counted ws 32 (ParamAt names ws (TypeExprStands names ws)) f.params (at + 1) params_end
    pub return_at : TraitReturnAt f.return_type params_end n

  -- a function as the pool holds it
  abbrev pub TraitFunctionStands : TraitFnDef → ℕ → ℕ → Type 0
  TraitFunctionStands = Held TraitFunctionAt trait_function_words (GoodTraitFunction names) ws

  pub record TraitAt (t : TraitDef) (at n : ℕ) : Type 0 where
    pub name_at : Word ws at t.name
    pub name_below : t.name < names
    pub type_params_end : ℕ
    pub type_params_at : Counted ws 8 (BelowAt ws names) t.type_params (at + 1) type_params_end
    pub functions_at : Counted ws 64 TraitFunctionStands t.functions type_params_end n
    pub different : all_different (map (λ f. f.name) t.functions) ≡ true

  abbrev pub TraitStands : TraitDef → ℕ → ℕ → Type 0
  TraitStands = Held TraitAt trait_words (GoodTrait names) ws
