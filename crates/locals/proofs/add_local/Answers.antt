-- `locals::add_local` meets its contract. Assumes nothing.
use native.Mathlib.Omega.{arith}
use Rattle.locals.proofs.Adds.{added}
use Rattle.locals.proofs.add_local.Goals as goal

pub returns : goal.returns
returns c rows ps t w h =
    let a = c.args in
    added rows a.names.now a.words.now _ a.lens.now a.i a.name.0 _ a.ty c.fill_row.ensures ps t c.requires.0 (omega arith) (omega arith) c.note_of.ensures w h
