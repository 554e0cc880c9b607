-- `subst_params::find_param` meets its contract. Assumes nothing.
use mathlib.Core.Path.{sym, subst, ◌∙◌}
use Prim.Native.Nat.{◌+◌}
use native.Mathlib.Omega.{arith}
use borrow.Author.Tests.{eqb-true, eqb-false}
use Rattle.type_words.specs.declared.HeldType.{HeldType}
use Rattle.type_words.specs.Holds.{Holds, MaybeHolds}
use Rattle.subst_params.proofs.RowsLaws.{found, passed, ended}
use Rattle.subst_params.proofs.find_param.Goals as goal
use Rattle.subst_params.proofs.find_param.Goals.{else-loop-at-test, then-loop-at-test+else-eq+else-at-end-at-gt66}

pub returns-then-eq : goal.returns-then-eq
returns-then-eq c names ps w =
    let q = c.loop-at.invariant names ps w in
    let a = c.args in
    subst (MaybeHolds names c.some.result) (sym q.2)
    (found names a.table.now c.loop-at.at a.x.0 q.0 q.1 (omega arith) (eqb-true _ _ (sym c.eq.ensures ∙ c.if-eq.true)) c.some.result c.some.ensures.0
    (λ p r. subst (λ (h : HeldType). Holds names h p.ty) (sym c.some.ensures.1) (c.argument.ensures names p r)))

pub loop-at-preserved : goal.loop-at-preserved
loop-at-preserved c names ps w =
    let q = c.loop-at.invariant names ps w in
    let a = c.args in
    let n = passed names a.table.now c.loop-at.at a.x.0 q.0 q.1 (omega arith) (eqb-false _ _ (sym c.eq.ensures ∙ c.if-eq.false)) in
    (n.0, n.1, q.2 ∙ n.2)

-- the last row is passed, or there is none
pub returns : goal.returns
returns c names ps w =
    let q = c.loop-at.invariant names ps w in
    let a = c.args in
    subst (MaybeHolds names c.none.result)
    (sym (q.2 ∙ elim c.loop-at-test.branch [
      | else-loop-at-test v ↦ ended names a.table.now c.loop-at.at a.x.0 q.0 q.1 v.loop-at-test.false
      | then-loop-at-test+else-eq+else-at-end-at-gt66 v ↦
          let n = passed names a.table.now c.loop-at.at a.x.0 q.0 q.1 v.loop-at-test.true (eqb-false _ _ (sym v.eq.ensures ∙ v.if-eq.false)) in
          n.2 ∙ ended names a.table.now (c.loop-at.at + 66) a.x.0 n.0 n.1 (omega arith)
    ]))
    c.none.ensures
