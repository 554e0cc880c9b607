-- Types, names and definitions whose words are small.
use Prim.Native.Nat.{◌<◌}
use Rattle.rules.specs.Syntax.{ResolvedType, run, Param, Name, TypeDef, CompiledSchema}
use Rattle.rules.specs.Good.{All, AllOption}
use Rattle.laws.specs.DefinitionRuns.{typed_words}
use Rattle.laws.proofs.Schema.{definition_words}
use Rattle.promises.proofs.Small.{WORD, Small}

abbrev pub SmallType : ResolvedType → Type 0
SmallType t = Small (run t)

-- a name with its type
abbrev pub SmallParam : Param ResolvedType → Type 0
SmallParam p = Small (typed_words run p)

pub record SmallName (n : Name) : Type 0 where
  pub definition : n.definition < WORD
  pub alias : AllOption SmallType n.alias

abbrev pub SmallDefinition : TypeDef → Type 0
SmallDefinition d = Small (definition_words d)

pub record SmallSchema (schema : CompiledSchema) : Type 0 where
  pub names : All SmallName schema.names
  pub definitions : All SmallDefinition schema.definitions
