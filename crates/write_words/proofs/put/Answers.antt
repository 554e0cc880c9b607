-- `write_words::put` meets its contract: the writer has the bytes below the limit. Assumes nothing.
use Rattle.write_words.proofs.Prefix.{put_prefix}
use Rattle.write_words.proofs.Written.{written_one}
use Rattle.write_words.proofs.put.Goals as goal

pub returns : goal.returns
returns c =
    let a = c.args in
    let e = c.write.ensures in
    written_one _ _ _ _ _ _ (e.0, put_prefix a.limit a.to a.w a.out.now c.requires e.1)
