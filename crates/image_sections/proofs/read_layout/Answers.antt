-- `image_sections::read_layout` meets its contract. Assumes nothing.
use mathlib.Core.Path.{sym, ◌∙◌}
use borrow.Author.Tests.{not-true, not-false}
use Rattle.image_sections.proofs.Schemas.{unsized_read, bad_read, good_read}
use Rattle.image_sections.proofs.read_layout.Goals as goal

pub returns-then-not-size : goal.returns-then-not-size
returns-then-not-size c = unsized_read _ (not-true _ c.if-not-size.true-raw)

pub returns-then-not-good_trailer : goal.returns-then-not-good_trailer
returns-then-not-good_trailer c = bad_read _ _ c.read_trailer-t.ensures (not-false _ c.if-not-size.false-raw) (sym c.good_trailer.ensures ∙ not-true _ c.if-not-good_trailer.true-raw)

pub returns : goal.returns
returns c = good_read _ _ c.read_trailer-t.ensures (not-false _ c.if-not-size.false-raw) (sym c.good_trailer.ensures ∙ not-false _ c.if-not-good_trailer.false-raw) c.layout_of.ensures
