-- `image_rows::check_rows` meets its contract. Assumes nothing.
use Rattle.image_words.specs.Verdict.{section_words}
use Rattle.image_rows.specs.Verdict.{table_of, reader_of}
use Rattle.image_rows.proofs.RowSteps.{RowsLeft}
use Rattle.image_rows.proofs.check_rows.Given as goal

abbrev pub invariant-loop-i : goal.invariant-loop-i
invariant-loop-i l = RowsLeft (reader_of l.which l.l) (section_words (table_of l.which l.l).words.now) (table_of l.which l.l).width (table_of l.which l.l).rows l.i
