-- `impl_name_tests::check_names` meets its contract. Assumes nothing.
use Rattle.project_outcome.proofs.Passing.{in_order}
use Rattle.impl_name_tests.proofs.check_names.Goals as goal

pub returns : goal.returns
returns c = λ ts m k fs h e. in_order c.first_refusal.ensures (c.no_repeat-repeats.ensures fs e) (c.no_stranger-strangers.ensures ts m k fs h)
