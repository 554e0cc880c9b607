-- `project_function::project_statements` meets its contract. The loop's invariant: what the statements left come to, the whole comes to. Assumes nothing.
use Prim.Native.Nat.{◌-◌}
use mathlib.Core.Path.{◌≡◌}
use mathlib.Core.Option.{Option}
use lib.ListN.{length}
use Rattle.rules.specs.Syntax.{ResolvedType}
use Rattle.project_statement.specs.Made.{block_words}
use Rattle.project_function.specs.Blocks.{AtBlock}
use Rattle.project_function.proofs.Blocks.{Left}
use Rattle.project_function.proofs.project_statements.Given as goal

abbrev pub invariant-loop-i : goal.invariant-loop-i
invariant-loop-i l =
    (length l.names ≡ length l.initial.names) × (length l.words ≡ length l.initial.words) × (length l.lens ≡ length l.initial.lens) × (length l.out ≡ length l.initial.out)
    × AtBlock l.l l.initial.names l.initial.words l.initial.lens l.ctx l.at l.count (λ c ss n. (o : Option ResolvedType) → Left l.l l.ctx o l.limit l.to l.initial.out l.count n (block_words o c ss) l.names l.words l.lens l.locals l.i l.next l.place l.out)
