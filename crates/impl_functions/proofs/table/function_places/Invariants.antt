use Prim.Native.Nat.{ℕ}
use mathlib.Core.Path.{◌≡◌}
use mathlib.Core.List.{List}
use lib.ListN.{length}
use Rattle.rules.specs.Syntax.{ImplFnDef}
use Rattle.impl_functions.specs.Functions.{FunctionHere, FunctionsHere}
use Rattle.impl_functions.proofs.PlaceTable.{Placing}
use Rattle.impl_functions.proofs.table.function_places.Given as goal

abbrev pub invariant-loop-place : goal.invariant-loop-place
invariant-loop-place l = (length l.place-items ≡ l.count) × (l.place-index-end ≡ l.count) × ((fs : List ImplFnDef) (n : ℕ) → FunctionsHere l.l fs l.at n → Placing (FunctionHere l.l) fs l.place-items n l.count l.place-index l.next × (l.count ≡ length fs))
