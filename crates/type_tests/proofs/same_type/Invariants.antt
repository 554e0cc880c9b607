-- `type_tests::same_type` meets its contract. The loop's invariant: the words passed agree. Assumes nothing.
use Prim.Native.Nat.{ℕ, ◌≤◌, ◌<◌}
use mathlib.Core.Path.{◌≡◌}
use lib.ListN.{get_or}
use Rattle.type_words.specs.Runs.{held_run}
use Rattle.type_tests.proofs.same_type.Given as goal

abbrev pub invariant-loop-i : goal.invariant-loop-i
invariant-loop-i l = (l.i ≤ l.n) × ((k : ℕ) → k < l.i → get_or (held_run l.a) k 0 ≡ get_or (held_run l.b) k 0)
