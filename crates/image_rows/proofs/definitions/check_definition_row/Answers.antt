-- `image_rows::check_definition_row` meets its contract. Assumes nothing.
use mathlib.Core.Path.{refl}
use Rattle.rules.specs.Image.{definition_node}
use Rattle.image_words.proofs.Says.{given, failed}
use Rattle.image_rows.proofs.RowSteps.{elsewhere, definition_then}
use Rattle.image_rows.proofs.definitions.check_definition_row.Goals as goal

pub returns-in-Other : goal.returns-in-Other
unfolding definition_node
returns-in-Other c = definition_then c.requires.0 c.requires.1 c.definition_row-row.ensures c.in-Other.is (given _)

pub returns-in-Message : goal.returns-in-Message
unfolding definition_node
returns-in-Message c = definition_then c.requires.0 c.requires.1 c.definition_row-row.ensures c.in-Message.is (elsewhere _ _ c.check_message.ensures c.is_some.ensures)

pub returns-in-GenericAlias : goal.returns-in-GenericAlias
unfolding definition_node
returns-in-GenericAlias c = definition_then c.requires.0 c.requires.1 c.definition_row-row.ensures c.in-GenericAlias.is (elsewhere _ _ c.check_generic_alias.ensures c.is_some-in-GenericAlias.ensures)

pub returns-in-Trait : goal.returns-in-Trait
unfolding definition_node
returns-in-Trait c = definition_then c.requires.0 c.requires.1 c.definition_row-row.ensures c.in-Trait.is (elsewhere _ _ c.check_trait.ensures c.is_some-in-Trait.ensures)

pub returns-in-Implementation : goal.returns-in-Implementation
unfolding definition_node
returns-in-Implementation c = definition_then c.requires.0 c.requires.1 c.definition_row-row.ensures c.in-Implementation.is (elsewhere _ _ c.check_implementation.ensures c.is_some-in-Implementation.ensures)

pub returns-in-Unknown : goal.returns-in-Unknown
unfolding definition_node
returns-in-Unknown c = definition_then c.requires.0 c.requires.1 c.definition_row-row.ensures c.in-Unknown.is failed
