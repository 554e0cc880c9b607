-- `expected_locals::put_params` meets its contract. The loop's invariant: the rows before i are written. Assumes nothing.
use Prim.Native.Nat.{ℕ, ◌≤◌}
use mathlib.Core.Path.{◌≡◌}
use mathlib.Core.List.{List}
use lib.ListN.{length}
use Rattle.rules.specs.Syntax.{ResolvedType, Param}
use Rattle.locals.specs.Rows.{Rows}
use Rattle.expected_locals.proofs.Puts.{Left}
use Rattle.expected_locals.proofs.put_params.Given as goal

abbrev pub invariant-loop-i : goal.invariant-loop-i
invariant-loop-i l = (l.i ≤ l.count) × (length l.out ≡ length l.initial.out) × ((rows : ℕ) (ps : List (Param ResolvedType)) → Rows rows l.names l.words l.lens l.count 0 ps → Left rows l.names l.words l.lens l.count ps l.i l.limit l.initial.next l.initial.out l.next l.out)
