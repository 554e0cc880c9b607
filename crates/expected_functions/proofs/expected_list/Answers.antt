use Prim.Native.Nat.{◌<◌}
use mathlib.Core.Path.{ap, ◌∙◌}
use native.Mathlib.Omega.{arith}
use lib.ListN.{length}
use Rattle.answers.proofs.Writes.{writes_length}
use Rattle.answers.specs.Refusals.{refusal_of}
use Rattle.expected_signature.proofs.Places.{pool_small}
use Rattle.expected_functions.proofs.ListLoop.{start, turn_here, turn_large, turn_poisoned, turn_goes, ended}
use Rattle.expected_functions.proofs.expected_list.Goals as goal

pub overflow_add-next : goal.overflow_add-next
overflow_add-next c = omega (arith, pool_small c.requires.0.inside c.requires.1.stands.0.inside)

pub loop-init : goal.loop-init
loop-init c = λ h. start h _ _

pub resolve_signature-requires : goal.resolve_signature-requires
resolve_signature-requires c =
    let h = c.requires.1 in
    let v = c.loop.invariant h in
    let b : c.loop.counter < length h.tree = omega (arith, c.section_word-count.ensures, h.stands.0.is) in
    (c.requires.0, turn_here h _ _ v b, omega (arith, v.writes.place, v.small, h.stands.1, c.put-place.ensures.place))

pub shape_of-out-in_default : goal.shape_of-out-in_default
shape_of-out-in_default c = c.resolve_signature.auto.out ∙ writes_length (c.loop.invariant c.requires.1).writes ∙ c.put-place.auto.out

pub returns-in_default : goal.returns-in_default
returns-in_default c = λ h. turn_large h _ _ (c.loop.invariant h) (omega (arith, c.section_word-count.ensures, h.stands.0.is)) c.in_default.ensures c.section_word.ensures c.refused.ensures.0 (ap refusal_of c.refused.ensures.1 ∙ c.at.ensures)

pub shape_of-out-then-f : goal.shape_of-out-then-f
shape_of-out-then-f c = c.resolve_signature.auto.out ∙ writes_length (c.loop.invariant c.requires.1).writes ∙ c.put-place.auto.out

pub returns-then-f : goal.returns-then-f
returns-then-f c = λ h. turn_poisoned h _ _ (c.loop.invariant h) (omega (arith, c.section_word-count.ensures, h.stands.0.is)) c.in-Some.ensures c.if-f.true c.section_word-then-f.ensures c.refused-then-f.ensures.0 (ap refusal_of c.refused-then-f.ensures.1 ∙ c.at-then-f.ensures)

pub overflow_add-visits : goal.overflow_add-visits
overflow_add-visits c =
    let h = c.requires.1 in
    let b : c.loop.counter < length h.tree = omega (arith, c.section_word-count.ensures, h.stands.0.is) in
    let g = turn_goes h _ _ (c.loop.invariant h) b c.in-Some.ensures c.if-f.false in
    omega (arith, g.few, h.stands.1)

pub loop-preserved : goal.loop-preserved
loop-preserved c = λ h. turn_goes h _ _ (c.loop.invariant h) (omega (arith, c.section_word-count.ensures, h.stands.0.is)) c.in-Some.ensures c.if-f.false

pub shape_of-out : goal.shape_of-out
shape_of-out c = writes_length (c.loop.invariant c.requires.1).writes ∙ c.put-place.auto.out

pub returns : goal.returns
returns c = λ h. ended h _ _ (c.loop.invariant h) c.section_word-count.ensures c.put-place.ensures (omega arith) c.accepted.ensures.0 c.accepted.ensures.1 c.accepted.ensures.2
