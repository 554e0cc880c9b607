-- `skip_functions::statements::skip_statement` meets its contract: an arm for each kind. Assumes nothing.
use native.Mathlib.Omega.{arith}
use Rattle.image_words.proofs.Sections.{length_section}
use Rattle.skip_types.proofs.Pending.{two_left}
use Rattle.skip_functions.proofs.ExprNodes.{expr_from}
use Rattle.skip_functions.proofs.StatementsLaws.{statement_node, by_code}
use Rattle.skip_functions.proofs.statements.skip_statement.Goals as goal

pub returns-then-count-at : goal.returns-then-count-at
returns-then-count-at c = λ names strings s n h. absurd (omega (arith, (statement_node names strings _ _ s n h).inside, c.if-count-at.true, c.count.ensures))

pub returns-in-Let : goal.returns-in-Let
returns-in-Let c = λ names strings. by_code names strings _ _ c.section_word.ensures c.statement_kind-k.ensures c.in-Let.is (λ x t e n h. c.skip_expr-in-Let.ensures names strings e n (expr_from names strings _ e n (c.skip_maybe_type-m.ensures names t h.2 h.3) h.4.parts))

pub returns-in-Assign : goal.returns-in-Assign
returns-in-Assign c = λ names strings. by_code names strings _ _ c.section_word.ensures c.statement_kind-k.ensures c.in-Assign.is (λ d e n h. c.skip_exprs.ensures names strings n (two_left d e h.1 h.2.parts h.3.parts))

pub overflow_add-n-in-Let : goal.overflow_add-n-in-Let
overflow_add-n-in-Let c = omega (arith, c.if-count-at.false, c.count.ensures, length_section c.args.pool.now)
