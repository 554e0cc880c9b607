-- `message_fields::find_field` meets its contract. The loop's invariant: the fields that are left, and the last so far. Assumes nothing.
use Prim.Native.Nat.{ℕ, ◌-◌}
use mathlib.Core.List.{List}
use Rattle.rules.specs.Syntax.{ResolvedType, Param}
use Rattle.image_words.specs.Verdict.{section_words}
use Rattle.message_fields.specs.Fields.{Fields}
use Rattle.message_fields.proofs.Finds.{Left}
use Rattle.message_fields.proofs.find_field.Given as goal

abbrev pub invariant-loop : goal.invariant-loop
invariant-loop l = (rows : ℕ) (ps : List (Param ResolvedType)) (n : ℕ) → Fields rows (section_words l.pool) ps l.at n → Left rows (section_words l.pool) l.x.0 ps n l.count l.counter l.next l.best
