use Prim.Native.Nat.{ℕ, ◌+◌}
use mathlib.Core.Path.{ap, ap₂, ◌∙◌}
use mathlib.Core.Bool.{◌||◌}
use mathlib.Core.List.{◌∷◌, ◌++◌}
use native.Mathlib.Omega.{arith}
use Rattle.rules.specs.Output.{listed, param_words, signature_words}
use Rattle.expected_signature.specs.Parts.{normal_words}
use Rattle.answers.proofs.Writes.{writes_then, writes_same}
use Rattle.expected_signature.proofs.Places.{pool_small}
use Rattle.expected_signature.proofs.Says.{says_done, says_large, part_large, made}
use Rattle.expected_signature.proofs.Wholes.{signature_large, return_large, signature_done}
use Rattle.expected_signature.proofs.Bounds.{params_of, return_of, params_bound, return_bound}
use Rattle.expected_signature.proofs.whole.resolve_signature.Goals as goal

pub overflow_add-at : goal.overflow_add-at
overflow_add-at c = omega (arith, pool_small c.requires.0.inside c.requires.1.stands.parts.name_at.inside)

pub resolve_params-requires : goal.resolve_params-requires
resolve_params-requires c = (c.requires.0, params_of c.requires.1, omega (arith, c.put-a.ensures.place, c.requires.2))

pub shape_of-out-in_err-p : goal.shape_of-out-in_err-p
shape_of-out-in_err-p c = c.resolve_params.auto.out ∙ c.put-a.auto.out

pub returns-in_err-p : goal.returns-in_err-p
returns-in_err-p c = rw c.from_residual.ensures λ h. says_large (signature_large h.schema h.seen h.tree (part_large (c.in_err-p.ensures (params_of h))))

pub resolve_return-requires : goal.resolve_return-requires
resolve_return-requires c =
    let h = c.requires.1 in
    let m = made (c.in_ok-p.ensures (params_of h)) in
    (c.requires.0, return_of h m.so.next, omega (arith, (params_bound (params_of h) m).1, c.put-a.ensures.place, c.requires.2))

pub shape_of-out-in_err-t : goal.shape_of-out-in_err-t
shape_of-out-in_err-t c = c.resolve_return.auto.out ∙ c.resolve_params.auto.out ∙ c.put-a.auto.out

pub returns-in_err-t : goal.returns-in_err-t
returns-in_err-t c =
    rw c.from_residual-in_err-t.ensures λ h. let m = made (c.in_ok-p.ensures (params_of h)) in
    says_large (return_large h.schema h.seen h.tree m.is (part_large (c.in_err-t.ensures (return_of h m.so.next))))

pub overflow_add-result : goal.overflow_add-result
overflow_add-result c =
    let h = c.requires.1 in
    let m = made (c.in_ok-p.ensures (params_of h)) in
    let t = made (c.in_ok-t.ensures (return_of h m.so.next)) in
    omega (arith, (params_bound (params_of h) m).0, (return_bound _ h.schema h.seen h.tree.return_type h.stands.good.return_type t).0)

pub shape_of-out : goal.shape_of-out
shape_of-out c = c.resolve_return.auto.out ∙ c.resolve_params.auto.out ∙ c.put-a.auto.out

pub returns : goal.returns
unfolding signature_words
returns c =
    λ h. let m = made (c.in_ok-p.ensures (params_of h)) in
    let t = made (c.in_ok-t.ensures (return_of h m.so.next)) in
    says_done (signature_done h.schema h.seen h.tree m.is t.is) (record {
      visits = ap₂ ◌+◌ m.so.visits t.so.visits;
      next = t.so.next;
      poison = ap₂ ◌||◌ m.so.poison t.so.poison;
      writes = writes_same (ap (λ (k : ℕ). k ∷ (listed param_words m.a ++ normal_words t.a)) (c.section_word.ensures ∙ h.stands.parts.name_at.is)) (writes_then c.put-a.ensures (writes_then m.so.writes t.so.writes));
    })
