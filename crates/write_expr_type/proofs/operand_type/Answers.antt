-- `write_expr_type::operand_type` meets its contract. Assumes nothing.
use mathlib.Core.Path.{sym, subst}
use mathlib.Core.Option.{none}
use Rattle.rules.specs.Syntax.{ResolvedType, run}
use Rattle.type_words.specs.Runs.{Runs}
use Rattle.write_expr_type.proofs.Arms.{held_runs, left_hinted, left_own, left_foretold}
use Rattle.write_expr_type.proofs.operand_type.Goals as goal

pub returns-then-h : goal.returns-then-h
returns-then-h c = λ x i d m s e n r t w. left_hinted x c.args.l.now.names.rows _ d e c.binary_hint-h.result (c.binary_hint-h.ensures x i _ d m s e n r none c.none.ensures) t c.if-h.true

pub returns-then-op-lt4 : goal.returns-then-op-lt4
returns-then-op-lt4 c = λ x i d m s e n r t w. subst (λ (u : ResolvedType). Runs c.args.ty (run u)) (sym (left_own x c.args.l.now.names.rows _ d e c.binary_hint-h.result (c.binary_hint-h.ensures x i _ d m s e n r none c.none.ensures) t c.if-h.false c.if-op-lt4.true)) w

pub returns : goal.returns
returns c = λ x i d m s e n r t w. subst (λ (u : ResolvedType). Runs c.foretell.result (run u)) (sym (left_foretold x c.args.l.now.names.rows _ d e c.binary_hint-h.result (c.binary_hint-h.ensures x i _ d m s e n r none c.none.ensures) t c.if-h.false c.if-op-lt4.false)) (held_runs (c.foretell.ensures x i d m s))
