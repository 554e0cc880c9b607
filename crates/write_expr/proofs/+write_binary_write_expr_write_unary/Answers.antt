-- A value's words are its type's run, then its parts'.
use Prim.Native.Nat.{ℕ, ◌+◌, ◌<◌}
use native.Mathlib.Omega.{arith}
use mathlib.Core.Path.{◌≡◌, refl, sym, ap, subst, ◌∙◌}
use mathlib.Core.List.{[], ◌∷◌}
use lib.ListN.{length}
use Rattle.rules.specs.Kinds.{expr_kind}
use Rattle.rules.specs.Syntax.{run, Expr}
use Rattle.rules.specs.Infer.{type_of, infer_expr}
use Rattle.type_words.specs.Runs.{Runs}
use Rattle.image_layout.specs.Open.{pool_words}
use Rattle.infer_context.proofs.Nodes.{deep, binary_word}
use Rattle.infer_context.proofs.Operands.{left_at, right_at, value_at}
use Rattle.write_expr_type.specs.Foretold.{left_type}
use Rattle.write_expr_type.proofs.Accepted.{operands_of, value_of}
use Rattle.write_expr.specs.Writes.{leaf_size}
use Rattle.write_expr.proofs.Parts.{written_value, leaf_of, at_binary, at_unary, binary_head, unary_head, written_binary, written_unary, left_runs, right_runs, value_runs}
use Rattle.write_expr.proofs.+write_binary_write_expr_write_unary.Goals as goal

pub write_binary-returns : goal.write_binary-returns
write_binary-returns t c = λ x i outer op d e n z s o context v q w.
    let a = c.args in
    let u = binary_word op d e s in
    let f : a.at + 1 < length (pool_words a.l.now) → c.first_part-left.result ≡ a.at + 1 + 1 = λ h. c.first_part-left.ensures (omega arith) in
    let l = left_at outer a.nest z a.at _ f op d e s in
    let r = right_at outer a.nest z a.at _ f op d e s _ c.skip_expr-right.ensures in
    let p = operands_of x op d e o context v q in
    let g : Runs c.operand_type-t.result (run (left_type x op d e (type_of v))) = subst (λ (y : ℕ). Runs c.operand_type-t.result (run (left_type x y d e (type_of v)))) (c.operand-op.ensures (omega (arith, u.0)) ∙ u.1) (c.operand_type-t.ensures x i d _ l e n r (type_of v) w) in
    written_binary x op _ _ p (c.put_words-a.ensures (10 ∷ op ∷ []) _ (binary_head op d e s) refl)
    (c.write_expr-b.ensures x i d _ l _ 6 p.left p.left_is (left_runs x op d e o v p _ g))
    (c.write_expr.ensures x i e n r _ 6 p.right p.right_is (right_runs x op d e o v p _ g))

pub write_expr-returns-then-nest-eq0 : goal.write_expr-returns-then-nest-eq0
write_expr-returns-then-nest-eq0 t c = λ x i e n s o context v q w. absurd (omega (arith, deep e, s.nested.deep, c.if-nest-eq0.true))

pub write_expr-returns-then-code-eq-BINARY : goal.write_expr-returns-then-code-eq-BINARY
write_expr-returns-then-code-eq-BINARY t c = λ x i e n s o context v q w.
    let b = at_binary (sym c.section_word-code.ensures ∙ c.if-code-eq-BINARY.true) e s in
    written_value v (c.put_type-next.ensures (run (type_of v)) w) (c.write_binary.ensures x i _ b.op b.left b.right n refl b.stood o context v (ap (λ (y : Expr). infer_expr x y o context) b.is ∙ q) w)

pub write_expr-returns-then-code-eq-UNARY : goal.write_expr-returns-then-code-eq-UNARY
write_expr-returns-then-code-eq-UNARY t c = λ x i e n s o context v q w.
    let b = at_unary (sym c.section_word-code.ensures ∙ c.if-code-eq-UNARY.true) e s in
    written_value v (c.put_type-next.ensures (run (type_of v)) w) (c.write_unary.ensures x i _ b.op b.value n refl b.stood o context v (ap (λ (y : Expr). infer_expr x y o context) b.is ∙ q) w)

pub write_expr-returns : goal.write_expr-returns
write_expr-returns t c = λ x i e n s o context v q w.
    let b = leaf_of x o context v (λ z. c.if-code-eq-BINARY.false (c.section_word-code.ensures ∙ z)) (λ z. c.if-code-eq-UNARY.false (c.section_word-code.ensures ∙ z)) e s q in
    written_value v (c.put_type-next.ensures (run (type_of v)) w) (c.put_words.ensures _ b.next b.words_at (b.size ∙ sym (c.leaf_size.ensures ∙ ap leaf_size (c.expr_kind.ensures ∙ ap expr_kind c.section_word-code.ensures))))

pub write_unary-returns : goal.write_unary-returns
write_unary-returns t c = λ x i outer op e n z s o context v q w.
    let a = c.args in
    let f : a.at + 1 < length (pool_words a.l.now) → c.first_part-value.result ≡ a.at + 1 + 1 = λ h. c.first_part-value.ensures (omega arith) in
    let p = value_of x op e o context v q in
    written_unary x op _ _ p (c.put_words-a.ensures (11 ∷ op ∷ []) _ (unary_head op e s) refl)
    (c.write_expr.ensures x i e n (value_at outer a.nest z a.at _ f op e s) o 7 p.value p.value_is (value_runs x op e o v p _ w))
