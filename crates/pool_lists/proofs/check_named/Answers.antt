-- `pool_lists::check_named` meets its contract: the answers follow the reader's steps, in each form.
use Rattle.rules.specs.ReadTypes.{param}
use Rattle.image_words.proofs.Says.{then, last}
use Rattle.pool_lists.proofs.check_named.Goals as goal

pub returns-in-Resolved : goal.returns-in-Resolved
unfolding param
returns-in-Resolved c = then c.in_ok-ty.ensures (λ _. last _ (rw c.in-Resolved.is c.check_type.ensures))

pub returns-in-Expression : goal.returns-in-Expression
unfolding param
returns-in-Expression c = then c.in_ok-ty.ensures (λ _. last _ (rw c.in-Expression.is c.check_type_expr.ensures))
