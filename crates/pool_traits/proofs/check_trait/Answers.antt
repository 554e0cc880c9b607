-- `pool_traits::check_trait` meets its contract: its reader is opened here, since no attribute can name it (`trait` is a word of Rust).
use Rattle.std.proofs.Common.{arith}
use Rattle.rules.specs.ReadDefinitions.{trait}
use Rattle.image_words.proofs.Says.{then, steps}
use Rattle.image_words.proofs.Loops.{made}
use Rattle.pool_traits.proofs.check_trait.Goals as goal

pub returns-in_err-type_params : goal.returns-in_err-type_params
unfolding trait
returns-in_err-type_params c = grind (arith, steps)

pub returns-in_err-functions : goal.returns-in_err-functions
unfolding trait
returns-in_err-functions c = grind (arith, steps)

pub returns : goal.returns
unfolding trait
returns c = then c.in_ok-type_params.ensures (λ _. then c.in_ok-functions.ensures (λ _. made _ _ _ c.check_trait_functions.ensures))
