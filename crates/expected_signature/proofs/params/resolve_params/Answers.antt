use Prim.Native.Nat.{◌<◌}
use mathlib.Core.Path.{◌∙◌}
use native.Mathlib.Omega.{arith}
use lib.ListN.{length}
use Rattle.answers.proofs.Writes.{writes_length}
use Rattle.expected_signature.proofs.Places.{pool_small}
use Rattle.expected_signature.proofs.ParamLoop.{start, turn_here, turn_stops, turn_goes, ended}
use Rattle.expected_signature.proofs.params.resolve_params.Goals as goal

pub overflow_add-next : goal.overflow_add-next
overflow_add-next c = omega (arith, pool_small c.requires.0.inside c.requires.1.stands.0.inside)

pub loop-init : goal.loop-init
loop-init c = λ h. start h _ _

pub resolve_param-requires : goal.resolve_param-requires
resolve_param-requires c =
    let h = c.requires.1 in
    let v = c.loop.invariant h in
    let b : c.loop.counter < length h.tree = omega (arith, c.section_word-count.ensures, h.stands.0.is) in
    (c.requires.0, turn_here h _ _ v b, omega (arith, v.writes.place, v.small, h.stands.1, c.requires.2, c.put-place.ensures.place))

pub shape_of-out-in_err-p : goal.shape_of-out-in_err-p
shape_of-out-in_err-p c = c.resolve_param.auto.out ∙ writes_length (c.loop.invariant c.requires.1).writes ∙ c.put-place.auto.out

pub returns-in_err-p : goal.returns-in_err-p
returns-in_err-p c = rw c.from_residual.ensures λ h. turn_stops h _ _ (c.loop.invariant h) (omega (arith, c.section_word-count.ensures, h.stands.0.is)) c.in_err-p.ensures

pub overflow_add-visits : goal.overflow_add-visits
overflow_add-visits c =
    let h = c.requires.1 in
    let b : c.loop.counter < length h.tree = omega (arith, c.section_word-count.ensures, h.stands.0.is) in
    let g = turn_goes h _ _ (c.loop.invariant h) b c.in_ok-p.ensures in
    omega (arith, g.few, h.stands.1)

pub loop-preserved : goal.loop-preserved
loop-preserved c = λ h. turn_goes h _ _ (c.loop.invariant h) (omega (arith, c.section_word-count.ensures, h.stands.0.is)) c.in_ok-p.ensures

pub shape_of-out : goal.shape_of-out
shape_of-out c = writes_length (c.loop.invariant c.requires.1).writes ∙ c.put-place.auto.out

pub returns : goal.returns
returns c = λ h. ended h _ _ (c.loop.invariant h) c.section_word-count.ensures c.put-place.ensures (omega arith)
