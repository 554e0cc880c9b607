use Rattle.rules.specs.Answer.{refused}
use Rattle.rules.specs.Words.{bytes_of, over_start}
use Rattle.answers.proofs.Fields.{unnamed}
use Rattle.answers.proofs.answer.alone.Goals as goal

pub returns : goal.returns
unfolding refused bytes_of over_start
returns c = λ detail output. unnamed c.unnamed.ensures output detail
