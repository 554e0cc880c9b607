-- `check_signature::parts::return_start` meets its contract. Assumes nothing.
use native.Mathlib.Omega.{arith}
use Rattle.check_signature.proofs.Ends.{params_from}
use Rattle.check_signature.proofs.parts.return_start.Goals as goal

pub returns : goal.returns
returns c = λ f n h. c.skip_params.ensures.resolved _ 32 f.params h.parts.params_end (params_from _ _ f.params h.parts.params_end (c.after-place.ensures (omega (arith, h.parts.name_at.inside))) h.parts.params_at)
