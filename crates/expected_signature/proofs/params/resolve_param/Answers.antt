use mathlib.Core.Path.{◌∙◌}
use native.Mathlib.Omega.{arith}
use Rattle.rules.specs.Substitute.{substitute_type}
use Rattle.rules.specs.Output.{param_words}
use Rattle.answers.proofs.Writes.{writes_then, writes_same}
use Rattle.expected_signature.proofs.Places.{pool_small, expr_here, is_large, taken}
use Rattle.expected_signature.proofs.Says.{says_done, says_large}
use Rattle.expected_signature.proofs.Wholes.{param_is, param_large, param_done}
use Rattle.expected_signature.proofs.params.resolve_param.Goals as goal

pub overflow_add-at : goal.overflow_add-at
overflow_add-at c = omega (arith, pool_small c.requires.0.inside c.requires.1.stands.name_at.inside)

pub returns-in_err-s : goal.returns-in_err-s
returns-in_err-s c =
    rw c.from_residual.ensures λ h. let a = c.args in
    says_large (param_large h.schema h.seen h.tree (is_large a.l.now.names.rows h.behind (substitute_type h.schema h.seen h.tree.ty) (c.in_err-s.ensures h.schema h.opened h.seen h.views h.tree.ty h.behind (expr_here h.stands.type_at))))

pub returns : goal.returns
unfolding param_words
returns c =
    λ h. let a = c.args in
    let k = taken a.l.now.names.rows h.behind c.in_ok-s.s (substitute_type h.schema h.seen h.tree.ty) (c.in_ok-s.ensures h.schema h.opened h.seen h.views h.tree.ty h.behind (expr_here h.stands.type_at)) in
    says_done (param_done h.schema h.seen h.tree k.is) (record {
      visits = k.visits;
      next = k.next;
      poison = c.contains_poison.ensures.1 a.l.now.names.rows k.t k.holds;
      writes = writes_same (param_is (c.section_word.ensures ∙ h.stands.name_at.is) k.holds.run) (writes_then c.put-a.ensures c.put_type-b.ensures);
    })
