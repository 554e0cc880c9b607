use mathlib.Core.Path.{◌∙◌}
use mathlib.Core.Bool.{true, false}
use borrow.Author.Rules.{rules}
use Rattle.std.proofs.Common.{tests}
use Rattle.std.proofs.lemmas.Iterator.{first_from_Range}
use Rattle.impl_lowest.proofs.Rows.{Stands, finds, first}
use Rattle.impl_lowest.proofs.lowest_row.Goals as goal

pub returns : goal.returns
returns c =
    λ s o. c.unwrap_or.ensures ∙ first c.args.l.now c.find-first.result
    (first_from_Range _ _ _ c.find-first.result (Stands c.args.l.now true) (Stands c.args.l.now false) c.find-first.ensures.ran (λ x q k. search (rules, tests, finds)) (λ x q k. search (rules, tests, finds))) s o
