-- `expected_locals::enter_params` meets its contract. The loop's invariant: i parameters are entered, and what is left decides. Assumes nothing.
use native.Mathlib.Omega.{arith}
use mathlib.Core.Path.{refl, ◌∙◌}
use Rattle.expected_signature.proofs.Places.{pool_small}
use Rattle.expected_locals.proofs.Enters.{start, turn_inside, turn_stops, turn_goes, ended}
use Rattle.expected_locals.proofs.enter_params.Goals as goal

pub overflow_add-next : goal.overflow_add-next
overflow_add-next c = let p = c.requires in omega (arith, pool_small p.0.inside p.1.stands.0.inside)

pub loop-i-init : goal.loop-i-init
loop-i-init c = (refl, refl, refl, λ h. start h _ _ _)

pub overflow_add-next-in-loop-i : goal.overflow_add-next-in-loop-i
overflow_add-next-in-loop-i c =
    let p = c.requires in
    omega (arith, pool_small p.0.inside (turn_inside p.1 (c.loop-i.invariant.3 p.1) (omega (arith, c.section_word-count.ensures, p.1.stands.0.is))))

pub returns-in_err-s : goal.returns-in_err-s
returns-in_err-s c = rw c.from_residual.ensures λ h. turn_stops h (c.loop-i.invariant.3 h) (omega (arith, c.section_word-count.ensures, h.stands.0.is)) c.in_err-s.ensures

pub add_local-requires : goal.add_local-requires
add_local-requires c =
    let p = c.requires in
    let v = c.loop-i.invariant in
    (omega (arith, c.section_word-count.ensures, p.1.stands.0.is, p.1.stands.1), omega (arith, v.0, p.2), omega (arith, v.1, p.3), omega (arith, v.2, p.4))

pub loop-i-preserved : goal.loop-i-preserved
loop-i-preserved c =
    let v = c.loop-i.invariant in
    let k = c.add_local.auto in (
      k.names ∙ v.0,
      k.words ∙ v.1,
      k.lens ∙ v.2,
      λ h.
          turn_goes h (v.3 h) (omega (arith, c.section_word-count.ensures, h.stands.0.is)) _ _ _ c.in_ok-s.s _ _ c.in_ok-s.ensures c.section_word.ensures c.add_local.ensures (omega arith),
    )

pub returns : goal.returns
returns c h = ended h (c.loop-i.invariant.3 h) _ (omega arith) (omega (arith, c.section_word-count.ensures, h.stands.0.is))
