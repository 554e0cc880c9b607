-- `impl_functions::places::after_asked` meets its contract. Assumes nothing.
use Rattle.impl_functions.proofs.places.after_asked.Goals as goal

pub returns : goal.returns
returns c = λ f n h. c.skip_trait_function.ensures _ f n h.parts
