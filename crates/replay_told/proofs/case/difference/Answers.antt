-- `replay_told::case::difference` meets its contract. Assumes nothing.
use mathlib.Core.Path.{sym, ◌∙◌}
use Rattle.lines.proofs.Tells.{tells_none}
use Rattle.replay_told.proofs.case.difference.Goals as goal

pub returns-then-same : goal.returns-then-same
returns-then-same c = rw (sym c.same.ensures ∙ c.if-same.true) (tells_none c.requires)
