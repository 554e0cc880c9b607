-- `skip_types::skip_types` meets its contract. The loop's invariant: what is pending ends where the whole does. Assumes nothing.
use Prim.Native.Nat.{◌-◌}
use mathlib.Core.Path.{refl, ap, ◌∙◌}
use native.Mathlib.Omega.{arith}
use Rattle.image_words.proofs.Sections.{length_section}
use Rattle.rules.specs.Kinds.{type_kind}
use Rattle.skip_types.proofs.Pending.{ended, of_first, turned}
use Rattle.skip_types.proofs.TypeNodes.{type_parts, type_inside}
use Rattle.skip_types.proofs.skip_types.Goals as goal

pub returns-then-len-next : goal.returns-then-len-next
returns-then-len-next c = λ names n h. absurd (of_first (c.loop-pending.invariant.1 names n h) c.loop-pending-test.true (λ e m q. omega (arith, type_inside _ _ e _ m q, c.if-len-next.true, c.count-len.ensures)))

pub loop-pending-preserved : goal.loop-pending-preserved
loop-pending-preserved c = (
  omega (arith, c.type_node-node.ensures.1, c.type_node-node.ensures.3, c.loop-pending.invariant.0),
  λ names n h. turned (c.loop-pending.invariant.1 names n h) c.loop-pending-test.true
      (type_parts names _ _ (c.type_kind-k.ensures ∙ ap type_kind c.section_word.ensures) refl c.type_node-node.ensures.0 (omega arith)) (omega arith),
)

pub returns : goal.returns
returns c = λ names n h. ended (c.loop-pending.invariant.1 names n h) (omega (arith, c.loop-pending-test.false))

pub overflow_add-next : goal.overflow_add-next
overflow_add-next c = omega (arith, c.if-len-next.false, c.count-len.ensures, length_section c.args.pool.now, c.type_node-node.ensures.2)

pub overflow_add-pending : goal.overflow_add-pending
overflow_add-pending c = omega (arith, c.if-len-next.false, c.count-len.ensures, length_section c.args.pool.now, c.loop-pending.invariant.0, c.type_node-node.ensures.3)
