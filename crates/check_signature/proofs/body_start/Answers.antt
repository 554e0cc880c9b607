-- `check_signature::body_start` meets its contract. Assumes nothing.
use Rattle.check_signature.proofs.Ends.{return_from}
use Rattle.check_signature.proofs.body_start.Goals as goal

pub returns : goal.returns
returns c = λ f n h. c.skip_maybe_type.ensures _ f.return_type h.parts.return_end (return_from _ _ f.return_type h.parts.return_end (c.return_start-place.ensures f n h) h.parts.return_at)
