-- `project_functions::parts::functions_start` meets its contract: as many types are gone past as are counted. Assumes nothing.
use native.Mathlib.Omega.{arith}
use Rattle.project_functions.proofs.TypeArgs.{types_left}
use Rattle.project_functions.proofs.parts.functions_start.Goals as goal

pub returns : goal.returns
returns c = λ ts n h. c.skip_types.ensures _ n (types_left _ _ ts _ n h _ c.section_word-count.ensures _ (c.after-place.ensures (omega (arith, h.0.inside))))
