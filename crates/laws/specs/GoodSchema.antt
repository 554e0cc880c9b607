-- Good schemas: every bound that a reading has tested, on the trees that an image holds.
use Rattle.std.specs.Prelude.{ℕ, ◌≤◌, ◌≡◌, true, ◌||◌, length, ltb, eqb}
use Rattle.rules.specs.Words.{NONE}
use Rattle.rules.specs.Utf8.{well_formed}
use Rattle.rules.specs.Syntax.{Name, TypeDef, CompiledSchema}
use Rattle.rules.specs.Image.{different_texts}
use Rattle.rules.specs.Good.{All, AllOption, Stored}
use Rattle.laws.specs.DefinitionRuns.{implementation_words, GoodMessage, GoodAlias, GoodTrait, GoodImpl}

-- an image has at most 65,536 bytes
abbrev pub most_words : ℕ
most_words = 16384

-- over the number of name rows and of definition rows
pub record GoodName (names definitions : ℕ) (n : Name) : Type 0 where
  pub text : length n.text ≤ 255
  pub text_formed : well_formed n.text ≡ true
  pub definition : (ltb n.definition definitions || eqb n.definition NONE) ≡ true
  pub alias : AllOption (Stored names) n.alias

-- over the number of name rows and of string rows
module _ (names strings : ℕ) where
  -- an implementation's words stand in the pool
  abbrev pub GoodDefinition : TypeDef → Type 0
  GoodDefinition TypeDef.other = Unit {0}
  GoodDefinition (TypeDef.message m) = GoodMessage names m
  GoodDefinition (TypeDef.generic_alias a) = GoodAlias names a
  GoodDefinition (TypeDef.trait t) = GoodTrait names t
  GoodDefinition (TypeDef.implementation i) = GoodImpl names strings i × (length (implementation_words i) ≤ most_words)

  pub record GoodSchema (schema : CompiledSchema) : Type 0 where
    pub few_names : length schema.names ≤ 1024
    pub few_strings : length schema.strings ≤ 1024
    pub few_definitions : length schema.definitions ≤ 256
    pub names_good : All (GoodName names (length schema.definitions)) schema.names
    pub different : different_texts schema.names ≡ true
    pub strings_good : All (λ text. well_formed text ≡ true) schema.strings
    pub definitions_good : All GoodDefinition schema.definitions
