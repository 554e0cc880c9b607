-- `skip_functions::exprs::skip_exprs` meets its contract. The loop's invariant: what is pending ends where the whole does. Assumes nothing.
use Prim.Native.Nat.{◌-◌}
use mathlib.Core.Path.{ap, ◌∙◌}
use native.Mathlib.Omega.{arith}
use Rattle.image_words.proofs.Sections.{length_section}
use Rattle.rules.specs.Kinds.{expr_kind}
use Rattle.skip_types.proofs.Pending.{ended, of_first, turned, pending_fits}
use Rattle.skip_functions.proofs.ExprNodes.{expr_parts, expr_inside}
use Rattle.skip_functions.proofs.exprs.skip_exprs.Goals as goal

pub returns-then-len-next : goal.returns-then-len-next
returns-then-len-next c = λ names strings n h. absurd (of_first (c.loop-pending.invariant names strings n h) c.loop-pending-test.true (λ e m q. omega (arith, (expr_inside _ _ _ e _ m q).0, c.if-len-next.true, c.count-len.ensures)))

pub returns-then-len-pending : goal.returns-then-len-pending
returns-then-len-pending c = λ names strings n h. absurd (omega (arith, pending_fits _ (expr_inside names strings _) (c.loop-pending.invariant names strings n h) c.loop-pending-test.true, c.if-len-pending.true, c.count-len.ensures))

pub loop-pending-preserved : goal.loop-pending-preserved
loop-pending-preserved c =
    λ names strings n h. turned (c.loop-pending.invariant names strings n h) c.loop-pending-test.true
    (expr_parts names strings _ _ (c.expr_kind-k.ensures ∙ ap expr_kind c.section_word.ensures) c.expr_node-node.ensures.0 (omega arith)) (omega arith)

pub returns : goal.returns
returns c = λ names strings n h. ended (c.loop-pending.invariant names strings n h) (omega (arith, c.loop-pending-test.false))

pub overflow_add-next : goal.overflow_add-next
overflow_add-next c = omega (arith, c.if-len-next.false, c.count-len.ensures, length_section c.args.pool.now, c.expr_node-node.ensures)

pub overflow_add-pending : goal.overflow_add-pending
overflow_add-pending c = omega (arith, c.if-len-pending.false, c.count-len.ensures, length_section c.args.pool.now, c.expr_node-node.ensures)
