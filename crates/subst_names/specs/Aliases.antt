-- What a look-up of a generic alias answers.
use Rattle.std.specs.Prelude.{ℕ, ◌≡◌, Bool, true, false, List}
use Rattle.std.proofs.Math.Option.{Option, none, some}
use Rattle.rules.specs.Syntax.{TypeExpr, Param, TypeDef, GenericAliasDef}
use Rattle.rules.specs.Substitute.{one_parameter}
use Rattle.rules.specs.declared.kinds.DefinitionKind.{DefinitionKind}
use Rattle.type_from_pool.specs.Held.{ExprStands}
use Rattle.subst_names.specs.declared.generic.Alias.{Alias}

abbrev pub is_generic : DefinitionKind → Bool
is_generic DefinitionKind.Other = false
is_generic DefinitionKind.Message = false
is_generic DefinitionKind.GenericAlias = true
is_generic DefinitionKind.Trait = false
is_generic DefinitionKind.Implementation = false
is_generic DefinitionKind.Unknown = false

-- r is no alias, or this one: its parameter, and where its target stands
abbrev pub IsAlias : ℕ → List ℕ → Alias → Option (Param TypeExpr) → Type 0
IsAlias names ws r none = r.some ≡ false
IsAlias names ws r (some p) = (r.some ≡ true) × (r.param.0 ≡ p.name) × (n : ℕ) × ExprStands names ws p.ty r.target n

abbrev pub alias_of : GenericAliasDef → Option (Param TypeExpr)
alias_of a = one_parameter (TypeDef.generic_alias a)
