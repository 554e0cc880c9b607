-- `impl_functions::places::after_function` meets its contract. Assumes nothing.
use Rattle.impl_functions.proofs.places.after_function.Goals as goal

pub returns : goal.returns
returns c = λ f n h. c.skip_function.ensures _ _ f n h.parts
