-- `call_open::look` meets its contract. Assumes nothing.
use Prim.Native.Nat.{ℕ, ◌≤◌}
use mathlib.Core.List.{List}
use native.Mathlib.Omega.{arith}
use Rattle.std.specs.Prelude.{Option, None, Some}
use Rattle.std.specs.Option.{ok_or}
use Rattle.image_layout.specs.declared.Layout.{Layout}
use Rattle.image.specs.Verdict.{Verdict}
use Rattle.call_open.specs.declared.Closed.{Closed}
use Rattle.call_open.specs.Fronts.{Fronts}
use Rattle.call_open.proofs.look.Goals as goal

-- the detail has room, and the image was looked at
looked : (image : List ℕ) (room : ℕ) → 576 ≤ room → (o : Option Layout) → Verdict image o → Fronts image room (ok_or o Closed.Unreadable)
looked image room h None v = (h, v)
looked image room h (Some l) v = (h, v)

pub returns : goal.returns
returns c = rw c.ok_or.ensures.value (looked _ c.args.lent (omega arith) _ c.read_image.ensures)
