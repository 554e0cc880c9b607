-- `locals::find_last` meets its contract. Assumes nothing.
use Rattle.locals.proofs.Finds.{held_last}
use Rattle.locals.proofs.find_last.Goals as goal

pub returns-then-i-count : goal.returns-then-i-count
returns-then-i-count c = λ rows ps w. held_last (c.find_local-i.ensures rows _ _ ps w) _ c.if-i-count.true _ c.some.ensures (λ p q. c.local_type.ensures rows _ p q)
