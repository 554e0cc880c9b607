-- `pool_lists::check_item` meets its contract: each arm says what its item's reader says. Assumes nothing.
use Rattle.pool_lists.proofs.check_item.Goals as goal

pub returns-in-Type : goal.returns-in-Type
returns-in-Type c = rw c.in-Type.is c.check_type.ensures

pub returns-in-Named : goal.returns-in-Named
returns-in-Named c = rw c.in-Named.is c.check_named.ensures
