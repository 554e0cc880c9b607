use mathlib.Core.Path.{◌≡◌}
use lib.ListN.{length}
use Rattle.answers.proofs.Writes.{writes_same}
use Rattle.type_words.proofs.Runs.{run_take}
use borrow.Author.Rules.{rules}
use Rattle.answers.proofs.output.put_type.Goals as goal

pub returns : goal.returns
returns c =
    let a = c.args in
    let w : length a.ty.words ≡ 64 = search rules in
    let e = run_take a.ty c.count.result w c.count.ensures.0 in
    writes_same e c.put_words.ensures
