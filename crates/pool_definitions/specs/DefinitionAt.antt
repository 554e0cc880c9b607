-- Which definition stands where among some words; a `..-end` is the place behind a part.
use Rattle.std.specs.Prelude.{ℕ, ◌+◌, ◌<◌, List}
use Rattle.rules.specs.Syntax.{ImplFnDef, MessageDef, ImplDef}
use Rattle.laws.specs.DefinitionRuns.{message_words, impl_function_words, implementation_words, GoodMessage, GoodFunction, GoodImpl}
use Rattle.image_words.specs.Gives.{Word, Counted, MaybeAt}
use Rattle.image_words.specs.Stands.{Held}
use Rattle.pool_types.specs.TypeAt.{TypeStands}
use Rattle.pool_types.specs.ParamAt.{ParamAt}
use Rattle.pool_bodies.specs.StatementAt.{BodyStands}

-- over the number of name rows and the words
module _ (names : ℕ) (ws : List ℕ) where
  pub record MessageAt (m : MessageDef) (at n : ℕ) : Type 0 where
    pub fields_at : Counted ws 256 (ParamAt names ws (TypeStands names ws)) m.fields at n

  abbrev pub MessageStands : MessageDef → ℕ → ℕ → Type 0
  MessageStands = Held MessageAt message_words (GoodMessage names) ws

-- over the number of string rows besides
module _ (names strings : ℕ) (ws : List ℕ) where
  pub record FunctionAt (f : ImplFnDef) (at n : ℕ) : Type 0 where
    pub name_at : Word ws at f.name
    pub name_below : f.name < names
    pub params_end : ℕ
    pub params_at : Counted ws 32 (ParamAt names ws (TypeStands names ws)) f.params (at + 1) params_end
    pub return_end : ℕ
    pub return_at : MaybeAt ws (TypeStands names ws) f.return_type params_end return_end
    pub body_at : BodyStands names strings ws f.body return_end n

  abbrev pub FunctionStands : ImplFnDef → ℕ → ℕ → Type 0
  FunctionStands = Held FunctionAt impl_function_words (GoodFunction names strings) ws

  pub record ImplAt (i : ImplDef) (at n : ℕ) : Type 0 where
    pub id_at : Word ws at i.trait_id
    pub name_at : Word ws (at + 1) i.trait_name
    pub name_below : i.trait_name < names
    pub target_end : ℕ
    pub target_at : TypeStands names ws i.target_type (at + 1 + 1) target_end
    pub type_args_end : ℕ
    pub type_args_at : Counted ws 8 (TypeStands names ws) i.type_args target_end type_args_end
    pub functions_at : Counted ws 64 FunctionStands i.functions type_args_end n

  abbrev pub ImplStands : ImplDef → ℕ → ℕ → Type 0
  ImplStands = Held ImplAt implementation_words (GoodImpl names strings) ws
