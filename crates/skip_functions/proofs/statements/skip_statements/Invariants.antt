-- `skip_functions::statements::skip_statements` meets its contract. The loop's invariant: what is pending ends where the whole does. Assumes nothing.
use Prim.Native.Nat.{ℕ, ◌-◌}
use Rattle.image_words.specs.Verdict.{section_words}
use Rattle.pool_bodies.specs.StatementAt.{StatementAt}
use Rattle.skip_types.specs.Pending.{Pending}
use Rattle.skip_functions.proofs.statements.skip_statements.Given as goal

abbrev pub invariant-loop : goal.invariant-loop
invariant-loop l = (names strings n : ℕ) → Pending (StatementAt names strings (section_words l.pool)) l.count l.at n → Pending (StatementAt names strings (section_words l.pool)) (l.count - l.counter) l.next n
