-- Contracts that are too long for a line, each called after its function.
use Rattle.std.specs.Prelude.{ℕ, ◌<◌, List}
use Rattle.image_layout.specs.Open.{Stored, pool_words, Open}
use Rattle.image_layout.specs.declared.Layout.{Layout}
use Rattle.rules.specs.ReadDefinitions.{generic_alias}
use Rattle.rules.specs.Substitute.{resolve_name, lookup_qualified, named_or_poison}
use Rattle.rules.specs.Syntax.{GenericAliasDef, ResolvedType, Param, CompiledSchema}
use Rattle.rules.specs.declared.ids.NameId.{NameId}
use Rattle.subst_params.specs.Views.{Views}
use Rattle.type_words.specs.Holds.{Holds}
use Rattle.type_words.specs.declared.HeldType.{HeldType}
use Rattle.subst_names.specs.Aliases.{IsAlias, alias_of}
use Rattle.subst_names.specs.declared.generic.Alias.{Alias}

-- the alias that stands there, if it has one parameter
abbrev pub TellsOneParameter : Layout → ℕ → Alias → Type 0
TellsOneParameter l start r =
    (a : GenericAliasDef) → Stored (generic_alias l.names.rows) (pool_words l) start a
    → IsAlias l.names.rows (pool_words l) r (alias_of a)

-- the type that the name stands for, under the parameters in view
abbrev pub ResolvesName : Layout → List ℕ → NameId → HeldType → Type 0
ResolvesName l params x r =
    (s : CompiledSchema) → Open l s → (ps : List (Param ResolvedType)) → Views l.names.rows params 0 ps → x.0 < l.names.rows
    → Holds l.names.rows r (resolve_name s ps x.0)

-- the type that the qualified name stands for
abbrev pub ResolvesQualified : Layout → NameId → NameId → HeldType → Type 0
ResolvesQualified l namespace x r =
    (s : CompiledSchema) → Open l s → namespace.0 < l.names.rows → x.0 < l.names.rows
    → Holds l.names.rows r (named_or_poison (lookup_qualified s namespace.0 x.0))
