-- `pool_definitions::implementations::check_impl_function` meets its contract: the search leaves the whole way, which has four steps.
use Rattle.rules.specs.ReadDefinitions.{impl_function}
use Rattle.image_words.proofs.Says.{then, last}
use Rattle.pool_definitions.proofs.implementations.check_impl_function.Goals as goal

pub returns : goal.returns
unfolding impl_function
returns c = then c.in_ok-params.ensures (λ _. then c.in_ok-ret.ensures (λ _. then c.in_ok-body.ensures (λ _. last _ c.check_body.ensures)))
