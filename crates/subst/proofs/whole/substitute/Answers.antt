-- `subst::whole::substitute` meets its contract. Assumes nothing.
use mathlib.Core.Path.{refl}
use native.Mathlib.Omega.{arith}
use borrow.Author.Tests.{not-true, not-false}
use Rattle.subst.proofs.Bounds.{no_answer, answers}
use Rattle.subst.proofs.whole.substitute.Goals as goal

pub returns-then-not-r : goal.returns-then-not-r
returns-then-not-r c s o ps w e n a =
    let l = c.args.l.now in
    no_answer l.names.rows n s ps e c.substitute_type-r.result (c.substitute_type-r.ensures.means s o 1024 (omega arith) ps w e n a) (not-true _ c.if-not-r.true)

pub returns : goal.returns
returns c s o ps w e n a =
    let l = c.args.l.now in
    answers l.names.rows n s ps e c.substitute_type-r.result (c.substitute_type-r.ensures.means s o 1024 (omega arith) ps w e n a) (not-false _ c.if-not-r.false) _ refl refl refl
