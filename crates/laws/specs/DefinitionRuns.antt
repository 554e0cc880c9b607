-- The words of definitions in the pool, and which definitions are good.
use Rattle.std.specs.Prelude.{ℕ, ◌<◌, ◌≡◌, true, List, [], ◌∷◌, ◌++◌, map}
use Rattle.rules.specs.Exact.{Few, optional}
use Rattle.rules.specs.Words.{all_different}
use Rattle.rules.specs.Syntax.{run, expr_run, Param, ImplFnDef, TraitReturn, TraitFnDef, MessageDef, GenericAliasDef, TraitDef, ImplDef}
use Rattle.rules.specs.Output.{listed}
use Rattle.rules.specs.Good.{AllOption, Stored}
use Rattle.laws.specs.TypeExprs.{StoredExpr}
use Rattle.laws.specs.Runs.{body_words, GoodBody}

-- a number is its own word
abbrev pub own : ℕ → List ℕ
own n = n ∷ []

abbrev pub typed_words : {A : Type 0} → (A → List ℕ) → Param A → List ℕ
typed_words words p = p.name ∷ words p.ty

unfoldable pub message_words : MessageDef → List ℕ
message_words m = listed (typed_words run) m.fields

unfoldable pub generic_alias_words : GenericAliasDef → List ℕ
generic_alias_words a = listed own a.type_params ++ expr_run a.target_type

unfoldable pub trait_return_words : TraitReturn → List ℕ
trait_return_words TraitReturn.no_return = 0 ∷ []
trait_return_words (TraitReturn.resolved t) = 1 ∷ run t
trait_return_words (TraitReturn.expression e) = 2 ∷ expr_run e

unfoldable pub trait_function_words : TraitFnDef → List ℕ
trait_function_words f = f.name ∷ (listed (typed_words expr_run) f.params ++ trait_return_words f.return_type)

unfoldable pub trait_words : TraitDef → List ℕ
trait_words t = t.name ∷ (listed own t.type_params ++ listed trait_function_words t.functions)

unfoldable pub impl_function_words : ImplFnDef → List ℕ
impl_function_words f = f.name ∷ (listed (typed_words run) f.params ++ (optional run f.return_type ++ body_words f.body))

unfoldable pub implementation_words : ImplDef → List ℕ
implementation_words i = i.trait_id ∷ i.trait_name ∷ (run i.target_type ++ (listed run i.type_args ++ listed impl_function_words i.functions))

module _ (names : ℕ) where
  pub record GoodParam {A : Type 0} (Good : A → Type 0) (p : Param A) : Type 0 where
    pub name : p.name < names
    pub ty : Good p.ty

  pub record GoodMessage (m : MessageDef) : Type 0 where
    pub fields : Few 256 (GoodParam (Stored names)) m.fields

  pub record GoodAlias (a : GenericAliasDef) : Type 0 where
    pub type_params : Few 8 (λ n. n < names) a.type_params
    pub target_type : StoredExpr names a.target_type

  abbrev pub GoodReturn : TraitReturn → Type 0
  GoodReturn TraitReturn.no_return = Unit {0}
  GoodReturn (TraitReturn.resolved t) = Stored names t
  GoodReturn (TraitReturn.expression e) = StoredExpr names e

  pub record GoodTraitFunction (f : TraitFnDef) : Type 0 where
    pub name : f.name < names
    pub params : Few 32 (GoodParam (StoredExpr names)) f.params
    pub return_type : GoodReturn f.return_type

  pub record GoodTrait (t : TraitDef) : Type 0 where
    pub name : t.name < names
    pub type_params : Few 8 (λ n. n < names) t.type_params
    pub functions : Few 64 GoodTraitFunction t.functions
    pub different : all_different (map (λ f. f.name) t.functions) ≡ true

-- over the number of string rows besides
module _ (names strings : ℕ) where
  pub record GoodFunction (f : ImplFnDef) : Type 0 where
    pub name : f.name < names
    pub params : Few 32 (GoodParam names (Stored names)) f.params
    pub return_type : AllOption (Stored names) f.return_type
    pub body : GoodBody names strings f.body

  pub record GoodImpl (i : ImplDef) : Type 0 where
    pub trait_name : i.trait_name < names
    pub target_type : Stored names i.target_type
    pub type_args : Few 8 (Stored names) i.type_args
    pub functions : Few 64 GoodFunction i.functions
