-- `pool_definitions::implementations::check_implementation` meets its contract: the search leaves the whole way, which has five steps.
use Rattle.rules.specs.ReadDefinitions.{implementation}
use Rattle.image_words.proofs.Says.{then, last}
use Rattle.pool_definitions.proofs.implementations.check_implementation.Goals as goal

pub returns : goal.returns
unfolding implementation
returns c =
    then c.in_ok-name.ensures (λ _. then c.in_ok-target.ensures (λ _. then c.in_ok-type_args.ensures (λ _. then c.in_ok-functions.ensures (λ _.
    last _ c.check_impl_functions.ensures))))
