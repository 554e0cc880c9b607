-- `write_words::put_type` meets its contract. The loop's invariant: the first i words of the run are written. Assumes nothing.
use borrow.Author.Rules.{rules}
use Prim.Native.Nat.{ℕ, ◌-◌}
use native.Mathlib.Omega.{arith}
use mathlib.Core.Path.{ap, ◌∙◌}
use mathlib.Core.List.{List}
use lib.ListN.{length, get_or}
use Rattle.write_words.proofs.Written.{written_none, written_more}
use Rattle.write_words.proofs.put_type.Goals as goal

pub loop-i-init : goal.loop-i-init
loop-i-init c = (omega arith, search rules, λ ws r. written_none _ _ _)

pub loop-i-preserved : goal.loop-i-preserved
loop-i-preserved c = (
  omega arith,
  search rules,
  λ ws r.
      written_more _ _ ws c.loop-i.i (omega (arith, ap length r.run, c.count-n.ensures)) (c.loop-i.invariant.2 ws r) (c.word.ensures ∙ ap (λ (l : List ℕ). get_or l c.loop-i.i 0) r.run) c.put-next.ensures,
)
