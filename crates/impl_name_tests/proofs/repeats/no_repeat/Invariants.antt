-- `impl_name_tests::repeats::no_repeat` meets its contract. The loop's invariant: those that are left, under the names before them, decide. Assumes nothing.
use mathlib.Core.Path.{◌≡◌}
use mathlib.Core.List.{List, [], map}
use Rattle.rules.specs.Syntax.{ImplFnDef}
use Rattle.rules.specs.Project.{no_repeat}
use Rattle.impl_name_tests.proofs.NameTests.{Repeats}
use Rattle.impl_name_tests.proofs.repeats.no_repeat.Given as goal

abbrev pub invariant-loop-i : goal.invariant-loop-i
invariant-loop-i l = (fs : List ImplFnDef) → l.names ≡ map (λ f. f.name) fs → Repeats l.names (no_repeat [] fs) l.i
