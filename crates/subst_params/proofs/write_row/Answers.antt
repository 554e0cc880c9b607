-- `subst_params::write_row` meets its contract. Assumes nothing.
use native.Mathlib.Omega.{arith}
use borrow.Author.Rules.{rules}
use mathlib.Core.Path.{◌≡◌}
use lib.ListN.{length}
use Rattle.subst_params.proofs.Writes.{written}
use Rattle.subst_params.proofs.write_row.Goals as goal

pub returns : goal.returns
returns c =
    let a = c.args in
    let wide : length a.ty.words ≡ 64 = search rules in
    written a.table.now _ a.at a.name.0 c.note_of.result _ a.ty c.requires (omega arith) c.copy_from_slice.ensures.after wide c.note_of.ensures
