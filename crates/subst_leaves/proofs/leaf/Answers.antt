-- `subst_leaves::leaf` meets its contract. Assumes nothing.
use mathlib.Core.Path.{refl}
use native.Mathlib.Omega.{arith}
use Rattle.subst_leaves.proofs.Parts.{leaf_stands}
use Rattle.subst_leaves.proofs.Steps.{one_visit}
use Rattle.subst_leaves.proofs.leaf.Goals as goal

pub returns : goal.returns
returns c =
    let a = c.args in
    record {
      falls = omega arith;
      means = λ t n e.
          let p = leaf_stands t e in
          let h = c.hold_type-h.ensures t n p.0 p.1 in
          one_visit a.l.now.names.rows a.left n t _ refl h.1 refl h.0;
    }
