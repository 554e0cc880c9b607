-- `infer_context::skip_expr` meets its contract: an expression whose words stand there has its parts there. Assumes nothing.
use Rattle.laws.proofs.Expressions.{tree_exact}
use Rattle.image_words.proofs.Gives.{of}
use Rattle.pool_expressions.proofs.ExprAt.{expr_tree_gives}
use Rattle.image_words.proofs.Stands.{reads_at}
use Rattle.infer_context.proofs.skip_expr.Goals as goal

pub returns : goal.returns
returns c = λ e n s. c.skip_expr.ensures _ _ e n (of (expr_tree_gives _ _ _ _ _) (reads_at (tree_exact _ _ _) e s.nested s.words_at)).1
