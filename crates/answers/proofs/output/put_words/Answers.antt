use borrow.Author.Rules.{rules}
use mathlib.Core.Path.{refl, ap, ap₂, ◌∙◌}
use Prim.Native.Nat.{ℕ}
use native.Mathlib.Omega.{arith}
use lib.ListN.{length, get_or}
use mathlib.Core.List.{List}
use Rattle.words.specs.Puts.{put, puts}
use Rattle.words.proofs.Puts.{puts_step}
use Rattle.answers.proofs.output.put_words.Goals as goal

pub loop-w-init : goal.loop-w-init
unfolding puts
loop-w-init c = (search rules, omega arith, refl, refl)

pub loop-w-preserved : goal.loop-w-preserved
loop-w-preserved c =
    let call = c.write-next in
    let l = c.loop-w in
    let a = c.args in (
      search rules,
      omega arith,
      call.ensures.1
          ∙ ap (λ (k : ℕ). put k l.next (get_or a.run.now l.w-index 0) l.out) l.invariant.3
          ∙ ap₂ (λ (k : ℕ) (o : List ℕ). put (length a.out.now) k (get_or a.run.now l.w-index 0) o) l.invariant.1 l.invariant.2
          ∙ puts_step (length a.out.now) a.at a.run.now l.w-index a.out.now (omega arith),
      call.auto.out ∙ l.invariant.3,
    )
