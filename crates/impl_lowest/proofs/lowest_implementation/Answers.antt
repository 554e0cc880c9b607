use mathlib.Core.Path.{sym, ◌∙◌}
use Rattle.impl_lowest.proofs.Rows.{unreadable, when_readable}
use Rattle.impl_lowest.proofs.lowest_implementation.Goals as goal

pub returns-in_default : goal.returns-in_default
returns-in_default c = sym (unreadable _ c.in_default.ensures)

pub returns : goal.returns
returns c = c.lowest_row.ensures c.in-Some.ensures.schema c.in-Some.ensures.opens ∙ sym (when_readable _ c.in-Some.ensures.read)
