-- `locals::fill_row` meets its contract. Assumes nothing.
use native.Mathlib.Omega.{arith}
use borrow.Author.Rules.{rules}
use mathlib.Core.Path.{◌≡◌}
use lib.ListN.{length}
use Rattle.locals.proofs.Adds.{filled}
use Rattle.locals.proofs.fill_row.Goals as goal

pub returns : goal.returns
returns c =
    let a = c.args in
    let wide : length a.ty.words ≡ 64 = search rules in
    filled a.words.now _ a.i _ a.ty wide (omega arith) (omega (arith, c.requires)) c.copy_from_slice.ensures.after
