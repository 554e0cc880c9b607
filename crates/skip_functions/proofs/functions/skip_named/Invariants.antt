-- `skip_functions::functions::skip_named` meets its contract. The loop's invariant: what is pending ends where the whole does. Assumes nothing.
use Prim.Native.Nat.{ℕ, ◌-◌}
use Rattle.image_words.specs.Verdict.{section_words}
use Rattle.pool_types.specs.ParamAt.{ParamAt}
use Rattle.pool_type_exprs.specs.TypeExprAt.{TypeExprAt}
use Rattle.skip_types.specs.Pending.{Pending}
use Rattle.skip_functions.proofs.functions.skip_named.Given as goal

abbrev pub invariant-loop : goal.invariant-loop
invariant-loop l =
    (names n : ℕ) → Pending (ParamAt names (section_words l.pool) (TypeExprAt names (section_words l.pool))) l.count l.at n → Pending (ParamAt names (section_words l.pool) (TypeExprAt names (section_words l.pool))) (l.count - l.counter) l.next n
