-- `check_signature::params::name_at` meets its contract. Assumes nothing.
use mathlib.Core.Path.{sym}
use lib.ListN.{get_or-eq_default}
use Rattle.check_signature.proofs.params.name_at.Goals as goal

pub returns-then-names-i : goal.returns-then-names-i
returns-then-names-i c = sym (get_or-eq_default c.args.names.now 0 c.if-names-i.true)
