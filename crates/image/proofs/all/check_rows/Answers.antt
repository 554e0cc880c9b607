-- `image::check_rows` meets its contract. Assumes nothing.
use borrow.Author.Tests.{not-true, not-false}
use Rattle.image.proofs.Reading.{names_refuse, texts_refuse, strings_refuse, definitions_say}
use Rattle.image.proofs.all.check_rows.Goals as goal

pub returns-then-not-named : goal.returns-then-not-named
returns-then-not-named c = names_refuse c.args.l.now c.check_rows-named.ensures (not-true _ c.if-not-named.true-raw)

pub returns-then-not-differ : goal.returns-then-not-differ
returns-then-not-differ c = texts_refuse _ c.requires c.check_rows-named.ensures (not-false _ c.if-not-named.false-raw) c.texts_differ-differ.ensures (not-true _ c.if-not-differ.true-raw)

pub returns-then-not-check_rows : goal.returns-then-not-check_rows
returns-then-not-check_rows c = strings_refuse _ c.requires c.check_rows-named.ensures (not-false _ c.if-not-named.false-raw) c.texts_differ-differ.ensures (not-false _ c.if-not-differ.false-raw) c.check_rows.ensures (not-true _ c.if-not-check_rows.true-raw)

pub returns : goal.returns
returns c = definitions_say _ c.requires c.check_rows-named.ensures (not-false _ c.if-not-named.false-raw) c.texts_differ-differ.ensures (not-false _ c.if-not-differ.false-raw) c.check_rows.ensures (not-false _ c.if-not-check_rows.false-raw) _ c.check_rows-2.ensures
