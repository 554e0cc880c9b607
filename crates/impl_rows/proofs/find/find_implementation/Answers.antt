use Rattle.impl_rows.proofs.FindRows.{is_impl, no_impl}
use Rattle.impl_rows.proofs.find.find_implementation.Goals as goal

pub returns-in-Implementation : goal.returns-in-Implementation
returns-in-Implementation c = λ s o. is_impl o c.args.number.0 c.definition_row-row.result c.definition_row-row.ensures c.in-Implementation.is

pub returns-in_default : goal.returns-in_default
returns-in_default c = λ s o. no_impl o c.args.number.0 c.definition_row-row.result c.definition_row-row.ensures c.in_default.not-Implementation
