-- `replay_told::case::named` meets its contract. Assumes nothing.
use Rattle.replay_told.specs.Told.{is_named}
use Rattle.replay_told.proofs.case.named.Goals as goal

pub returns : goal.returns
unfolding is_named
returns c = rw (c.same_text.ensures, c.same_text-2.ensures, c.same_text-3.ensures)
