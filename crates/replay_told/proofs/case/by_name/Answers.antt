-- `replay_told::case::by_name` meets its contract. Assumes nothing.
use borrow.Author.Tests.{not-true, not-false}
use mathlib.Core.Path.{sym, ◌∙◌}
use Rattle.lines.proofs.Tells.{tells_none, tells_then}
use Rattle.replay_told.proofs.case.by_name.Goals as goal

pub returns-then-not-named : goal.returns-then-not-named
returns-then-not-named c = rw (sym c.named.ensures ∙ not-true _ c.if-not-named.true-raw) (tells_none c.requires)

pub returns : goal.returns
returns c = rw (sym c.named.ensures ∙ not-false _ c.if-not-named.false-raw) (tells_then c.requires (tells_then c.requires c.put_bytes-first.ensures c.put_bytes-second.ensures) c.put_number.ensures)
