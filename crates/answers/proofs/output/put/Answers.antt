use Rattle.answers.proofs.Writes.{writes_one}
use Rattle.answers.proofs.output.put.Goals as goal

pub returns : goal.returns
returns c = writes_one c.write.ensures.0 c.write.ensures.1
