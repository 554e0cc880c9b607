-- `check_signature::params::check_params` meets its contract. The loop's invariant: the parameters that are left decide. Assumes nothing.
use Prim.Native.Nat.{ℕ, ◌-◌}
use mathlib.Core.Path.{◌≡◌}
use mathlib.Core.List.{List}
use lib.ListN.{length}
use Rattle.rules.specs.Syntax.{ResolvedType, Param}
use Rattle.image_words.specs.Gives.{Row}
use Rattle.image_layout.specs.Open.{pool_words}
use Rattle.pool_types.specs.TypeAt.{TypeStands}
use Rattle.pool_types.specs.ParamAt.{ParamAt}
use Rattle.locals.specs.Rows.{Rows}
use Rattle.check_signature.proofs.ParamsLaws.{Left}
use Rattle.check_signature.proofs.params.check_params.Given as goal

abbrev pub invariant-loop-i : goal.invariant-loop-i
invariant-loop-i l = (ps es : List (Param ResolvedType)) (n : ℕ) → Row (ParamAt l.l.names.rows (pool_words l.l) (TypeStands l.l.names.rows (pool_words l.l))) ps l.at n → Rows l.l.names.rows l.names l.words l.lens l.count 0 es → length ps ≡ length es → Left l.l.names.rows l.names l.words l.lens l.count (pool_words l.l) l.function.0 ps es n l.i l.next
