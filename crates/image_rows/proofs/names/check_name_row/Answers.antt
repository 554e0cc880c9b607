-- `image_rows::check_name_row` meets its contract. Assumes nothing.
use Prim.Native.Nat.{◌+◌}
use mathlib.Core.Path.{◌∙◌}
use native.Mathlib.Omega.{arith}
use borrow.Author.Tests.{not-true, not-false, le-leb, lt-leb}
use Rattle.rules.specs.Image.{name_row}
use Rattle.image_words.proofs.Says.{last, rule_then, rule_stop}
use Rattle.image_rows.proofs.RowSteps.{name_then, own_text, alias_none, alias_read}
use Rattle.image_rows.proofs.names.check_name_row.Goals as goal

pub returns-then-not-size : goal.returns-then-not-size
unfolding name_row
returns-then-not-size c = name_then c.requires.0 c.requires.1 c.name_row-row.ensures _ (rule_stop _ (not-true _ c.if-not-size.true-raw))

pub returns-then-texts-end : goal.returns-then-texts-end
unfolding name_row
returns-then-texts-end c = name_then c.requires.0 c.requires.1 c.name_row-row.ensures _ (rule_then _ (not-false _ c.if-not-size.false-raw) (rule_stop _ (lt-leb (c.name_row-row.result.start + c.name_row-row.result.size) _ (omega arith))))

pub returns-then-not-well_formed : goal.returns-then-not-well_formed
unfolding name_row
returns-then-not-well_formed c = name_then c.requires.0 c.requires.1 c.name_row-row.ensures _ (rule_then _ (not-false _ c.if-not-size.false-raw) (rule_then _ (le-leb (c.name_row-row.result.start + c.name_row-row.result.size) _ (omega arith)) (rule_stop _ (own_text c.args.l.now.image.now c.name_row-row.result.start c.name_row-row.result.size c.well_formed-2.ensures ∙ not-true _ c.if-not-well_formed.true-raw))))

pub returns-then-not-definition-l : goal.returns-then-not-definition-l
unfolding name_row
returns-then-not-definition-l c = name_then c.requires.0 c.requires.1 c.name_row-row.ensures _ (rule_then _ (not-false _ c.if-not-size.false-raw) (rule_then _ (le-leb (c.name_row-row.result.start + c.name_row-row.result.size) _ (omega arith)) (rule_then _ (own_text c.args.l.now.image.now c.name_row-row.result.start c.name_row-row.result.size c.well_formed-2.ensures ∙ not-false _ c.if-not-well_formed.false-raw) (rule_stop _ (not-true _ c.if-not-definition-l.true-raw)))))

pub returns-then-row : goal.returns-then-row
unfolding name_row
returns-then-row c = name_then c.requires.0 c.requires.1 c.name_row-row.ensures _ (rule_then _ (not-false _ c.if-not-size.false-raw) (rule_then _ (le-leb (c.name_row-row.result.start + c.name_row-row.result.size) _ (omega arith)) (rule_then _ (own_text c.args.l.now.image.now c.name_row-row.result.start c.name_row-row.result.size c.well_formed-2.ensures ∙ not-false _ c.if-not-well_formed.false-raw) (rule_then _ (not-false _ c.if-not-definition-l.false-raw) (last _ (alias_none _ _ _ _ _ _ _ c.if-row.true))))))

pub returns : goal.returns
unfolding name_row
returns c = name_then c.requires.0 c.requires.1 c.name_row-row.ensures _ (rule_then _ (not-false _ c.if-not-size.false-raw) (rule_then _ (le-leb (c.name_row-row.result.start + c.name_row-row.result.size) _ (omega arith)) (rule_then _ (own_text c.args.l.now.image.now c.name_row-row.result.start c.name_row-row.result.size c.well_formed-2.ensures ∙ not-false _ c.if-not-well_formed.false-raw) (rule_then _ (not-false _ c.if-not-definition-l.false-raw) (last _ (alias_read _ _ _ _ _ _ _ c.if-row.false _ c.check_type.ensures c.is_some.ensures))))))
