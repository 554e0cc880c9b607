use Rattle.impl_rows.proofs.FindRows.{is_trait, no_trait}
use Rattle.impl_rows.proofs.find.find_trait.Goals as goal

pub returns-in-Trait : goal.returns-in-Trait
returns-in-Trait c = λ s o. is_trait o c.args.number.0 c.definition_row-row.result c.definition_row-row.ensures c.in-Trait.is

pub returns-in_default : goal.returns-in_default
returns-in_default c = λ s o. no_trait o c.args.number.0 c.definition_row-row.result c.definition_row-row.ensures c.in_default.not-Trait
