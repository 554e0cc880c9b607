-- `project_let::project_let` meets its contract. Assumes nothing.
use borrow.Author.Tests.{not-true, not-false}
use native.Mathlib.Omega.{arith}
use mathlib.Core.Path.{refl}
use Rattle.project_let.proofs.Lets.{name_at, type_at, let_value, let_tested, let_refused, let_entered}
use Rattle.project_let.proofs.project_let.Goals as goal

pub returns-then-count-ge-LOCAL_ROWS : goal.returns-then-count-ge-LOCAL_ROWS
returns-then-count-ge-LOCAL_ROWS c = λ f i x t e n s b. absurd (omega (arith, c.if-count-ge-LOCAL_ROWS.true))

pub returns-then-not-done : goal.returns-then-not-done
returns-then-not-done c =
    λ f i x t e n s b.
    let m = c.written_type-w.ensures t _ (type_at s _ (λ k. c.first_part.ensures (omega arith))) in
    let says = c.infer_expr-r.ensures f i e n (let_value s _ m.1) t m.0 in
    let tested = let_tested f c.operand.result t e _ i.function _ (c.check_let-done.ensures _ _ _ _ i.locals) says in
    let_refused _ _ _ _ _ f i (name_at s _ c.operand.ensures) t e tested (not-true _ c.if-not-done.true) refl

pub write_let-next-requires : goal.write_let-next-requires
write_let-next-requires c = c.requires.0

pub add_local-requires : goal.add_local-requires
add_local-requires c = (omega (arith, c.if-count-ge-LOCAL_ROWS.false), c.requires.1, c.requires.2, c.requires.3)

pub overflow_add-result : goal.overflow_add-result
overflow_add-result c = omega (arith, c.if-count-ge-LOCAL_ROWS.false)

pub returns : goal.returns
returns c =
    λ f i x t e n s b.
    let m = c.written_type-w.ensures t _ (type_at s _ (λ k. c.first_part.ensures (omega arith))) in
    let says = c.infer_expr-r.ensures f i e n (let_value s _ m.1) t m.0 in
    let tested = let_tested f c.operand.result t e _ i.function _ (c.check_let-done.ensures _ _ _ _ i.locals) says in
    let_entered _ _ _ _ _ f i (name_at s _ c.operand.ensures) t e tested (not-false _ c.if-not-done.false) _ says (λ v q w. c.write_let-next.ensures f i e n (let_value s _ m.1) t 3 v q w)
    (λ u h. c.add_local.ensures _ f.locals u i.locals h) c.accepted-done-2.ensures.0 c.accepted-done-2.ensures.1 (omega arith)
