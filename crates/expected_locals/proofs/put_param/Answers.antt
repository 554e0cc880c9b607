-- `expected_locals::put_param` meets its contract. Assumes nothing.
use native.Mathlib.Omega.{arith}
use Rattle.expected_locals.proofs.PutParts.{param_written}
use Rattle.expected_locals.proofs.put_param.Goals as goal

pub returns-then-names-i : goal.returns-then-names-i
returns-then-names-i c rows p w = absurd (omega (arith, w.named, c.if-names-i.true))

pub returns : goal.returns
returns c rows p w = param_written _ _ p w.name (c.local_type-ty.ensures rows _ p w) c.put-a.ensures c.put_type.ensures
