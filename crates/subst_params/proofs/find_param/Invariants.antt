-- `subst_params::find_param` meets its contract. Assumes nothing.
use Prim.Native.Nat.{ℕ}
use mathlib.Core.Path.{◌≡◌}
use mathlib.Core.List.{List}
use Rattle.rules.specs.Syntax.{ResolvedType, Param}
use Rattle.rules.specs.Substitute.{find_param}
use Rattle.subst_params.specs.Views.{Views}
use Rattle.subst_params.proofs.find_param.Given as goal

abbrev pub invariant-loop-at : goal.invariant-loop-at
invariant-loop-at l = (names : ℕ) (ps : List (Param ResolvedType)) → Views names l.table 0 ps → (qs : List (Param ResolvedType)) × Views names l.table l.at qs × (find_param l.x.0 ps ≡ find_param l.x.0 qs)
