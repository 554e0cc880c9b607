-- `impl_functions::names::own_names` meets its contract. The loop's invariant: the names in the table, then those that are left. Assumes nothing.
use Prim.Native.Nat.{◌≤◌}
use mathlib.Core.Path.{◌≡◌}
use mathlib.Core.List.{List}
use lib.ListN.{length}
use Rattle.rules.specs.Syntax.{ImplFnDef}
use Rattle.impl_functions.specs.Functions.{Placed}
use Rattle.impl_functions.proofs.NameTables.{OwnNames}
use Rattle.impl_functions.proofs.names.own_names.Given as goal

abbrev pub invariant-loop-i : goal.invariant-loop-i
invariant-loop-i l = (length l.names ≡ 64) × (l.i ≤ length l.places) × ((fs : List ImplFnDef) → Placed l.l fs l.places → OwnNames l.l fs l.places l.names l.i)
