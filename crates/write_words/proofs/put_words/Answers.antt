-- `write_words::put_words` meets its contract. The loop's invariant: the first i words are written, and the next stands behind them. Assumes nothing.
use borrow.Author.Rules.{rules}
use Prim.Native.Nat.{ℕ, ◌+◌, ◌-◌, ◌<◌}
use native.Mathlib.Omega.{arith}
use mathlib.Core.Path.{◌≡◌, ap, ◌∙◌}
use lib.ListN.{length, get_or}
use Rattle.image_words.specs.Verdict.{section_words}
use Rattle.write_words.proofs.Written.{written_none, written_more}
use Rattle.write_words.proofs.Copies.{stands_word, stands_within}
use Rattle.write_words.proofs.put_words.Goals as goal

pub loop-init : goal.loop-init
loop-init c = (omega arith, search rules, λ ws n s l. (omega arith, written_none _ _ _))

pub loop-preserved : goal.loop-preserved
loop-preserved c = (
  omega arith,
  search rules,
  λ ws n s l.
      let v = c.loop.invariant.2 ws n s l in
      let h : c.loop.counter < length ws = omega (arith, l, c.loop-test.true) in
      let e : c.loop.from ≡ c.args.at + c.loop.counter = v.0 in (
        c.after-from.ensures (omega (arith, stands_within s c.loop.counter h)) ∙ omega arith,
        written_more _ _ ws c.loop.counter h v.1 (c.section_word.ensures ∙ ap (λ (k : ℕ). get_or (section_words c.args.l.now.pool.now) k 0) e ∙ stands_word s c.loop.counter h) c.put-next.ensures,
      ),
)
