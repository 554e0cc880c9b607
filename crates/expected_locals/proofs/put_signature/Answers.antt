-- `expected_locals::put_signature` meets its contract. Assumes nothing.
use Rattle.expected_locals.proofs.PutParts.{signature_written}
use Rattle.expected_locals.proofs.put_signature.Goals as goal

pub returns : goal.returns
returns c rows ps o w h = signature_written _ _ _ ps o c.put-a.ensures (c.put_params-b.ensures rows ps w) (c.put_return.ensures rows o h)
