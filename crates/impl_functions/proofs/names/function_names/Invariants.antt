-- `impl_functions::names::function_names` meets its contract. The loop's invariant: the names in the table, then those that are left. Assumes nothing.
use Prim.Native.Nat.{ℕ}
use mathlib.Core.Path.{◌≡◌}
use mathlib.Core.List.{List}
use lib.ListN.{length}
use Rattle.rules.specs.Syntax.{TraitFnDef}
use Rattle.impl_functions.specs.Functions.{AllAskedHere}
use Rattle.impl_functions.proofs.NameTables.{Names}
use Rattle.impl_functions.proofs.names.function_names.Given as goal

abbrev pub invariant-loop-name : goal.invariant-loop-name
invariant-loop-name l = (length l.name-items ≡ l.count) × (l.name-index-end ≡ l.count) × ((ts : List TraitFnDef) (n : ℕ) → AllAskedHere l.l ts l.at n → Names l.l ts l.name-items n l.count l.name-index l.next × (l.count ≡ length ts))
