-- `replay_verdict::total` meets its contract. Assumes nothing.
use Rattle.replay_verdict.proofs.total.Goals as goal

pub returns-in-Ok : goal.returns-in-Ok
returns-in-Ok c = rw c.in-Ok.is c.tally.ensures

pub returns-in-Err : goal.returns-in-Err
returns-in-Err c = rw c.in-Err.is c.damaged.ensures
