-- `project_functions::list::name_in` meets its contract. Assumes nothing.
use mathlib.Core.Path.{sym}
use lib.ListN.{get_or-eq_default}
use Rattle.project_functions.proofs.list.name_in.Goals as goal

pub returns-then-names-k : goal.returns-then-names-k
returns-then-names-k c = sym (get_or-eq_default c.args.names.now 0 c.if-names-k.true)
