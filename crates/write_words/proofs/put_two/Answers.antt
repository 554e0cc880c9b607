-- `write_words::put_two` meets its contract: the writer has the bytes below the limit for both words. Assumes nothing.
use Rattle.write_words.proofs.Prefix.{put_two_prefix}
use Rattle.write_words.proofs.Written.{written_two}
use Rattle.write_words.proofs.put_two.Goals as goal

pub returns : goal.returns
returns c =
    let a = c.args in
    let e = c.write_two.ensures in
    written_two _ _ _ _ _ _ _ (e.0, put_two_prefix a.limit a.to a.v a.w a.out.now c.requires e.1)
