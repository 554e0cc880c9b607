-- `impl_name_tests::strangers::no_stranger` meets its contract. The loop's invariant: those that are left decide. Assumes nothing.
use Prim.Native.Nat.{ℕ}
use mathlib.Core.List.{List}
use Rattle.rules.specs.Syntax.{ImplFnDef, TraitFnDef}
use Rattle.rules.specs.Project.{no_stranger}
use Rattle.pool_traits.specs.Different.{names_of}
use Rattle.impl_functions.specs.Functions.{Placed, AllAskedHere}
use Rattle.impl_name_tests.proofs.NameTests.{Tested}
use Rattle.impl_name_tests.proofs.strangers.no_stranger.Given as goal

abbrev pub invariant-loop-place : goal.invariant-loop-place
invariant-loop-place l = (ts : List TraitFnDef) (m : ℕ) → AllAskedHere l.l ts l.trait_at m → (fs : List ImplFnDef) → Placed l.l fs l.places → Tested l.l l.places no_stranger (no_stranger (names_of ts) fs) (names_of ts) l.place-index
