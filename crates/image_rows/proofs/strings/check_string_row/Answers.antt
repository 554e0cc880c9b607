-- `image_rows::check_string_row` meets its contract. Assumes nothing.
use Prim.Native.Nat.{◌+◌}
use native.Mathlib.Omega.{arith}
use borrow.Author.Tests.{le-leb, lt-leb}
use Rattle.rules.specs.Image.{string_row}
use Rattle.image_words.proofs.Says.{last, rule_then, rule_stop}
use Rattle.image_rows.proofs.RowSteps.{string_then, last_rule, own_text}
use Rattle.image_rows.proofs.strings.check_string_row.Goals as goal

pub returns-then-texts-end : goal.returns-then-texts-end
unfolding string_row
returns-then-texts-end c = string_then c.requires.0 c.requires.1 c.string_row-row.ensures _ (rule_stop _ (lt-leb (c.string_row-row.result.start + c.string_row-row.result.size) _ (omega arith)))

pub returns : goal.returns
unfolding string_row
returns c = string_then c.requires.0 c.requires.1 c.string_row-row.ensures _ (rule_then _ (le-leb (c.string_row-row.result.start + c.string_row-row.result.size) _ (omega arith)) (last _ (last_rule (own_text c.args.l.now.image.now c.string_row-row.result.start c.string_row-row.result.size c.well_formed-2.ensures))))
