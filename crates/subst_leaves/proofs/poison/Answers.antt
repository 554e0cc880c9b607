-- `subst_leaves::poison` meets its contract. Assumes nothing.
use mathlib.Core.Path.{refl}
use native.Mathlib.Omega.{arith}
use Rattle.rules.specs.Types.{POISON}
use Rattle.laws.proofs.TypeExprs.{type_expr_exact}
use Rattle.type_words.proofs.Trees.{named_holds}
use Rattle.image_words.proofs.Gives.{of}
use Rattle.image_words.proofs.Stands.{reads_at}
use Rattle.pool_type_exprs.proofs.TypeExprAt.{type_expr_gives}
use Rattle.subst_leaves.proofs.Steps.{one_visit}
use Rattle.subst_leaves.proofs.poison.Goals as goal

pub returns : goal.returns
returns c =
    let a = c.args in
    let names = a.l.now.names.rows in
    record {
      falls = omega arith;
      means = λ x n e.
          one_visit names a.left n POISON _ refl (c.skip_type.ensures.expressions names x n (of (type_expr_gives names _ _) (reads_at (type_expr_exact names) x e.stored e.run_at)).1.parts) refl
          (named_holds names c.named.ensures);
    }
