-- `locals::find_local` meets its contract. Assumes nothing.
use Rattle.locals.proofs.Finds.{searched, short}
use Rattle.locals.proofs.find_local.Goals as goal

pub returns-then-names-count : goal.returns-then-names-count
returns-then-names-count c = λ rows words lens ps w. absurd (short rows _ words lens _ 0 ps w c.if-names-count.true)

pub returns : goal.returns
returns c = λ rows words lens ps w. searched rows _ words lens _ _ ps w c.if-names-count.false c.last_place.result c.last_place.ensures.none c.last_place.ensures.some c.unwrap_or.ensures
