-- `infer_context::operand` meets its contract. Assumes nothing.
use Prim.Native.Nat.{ℕ}
use native.Mathlib.Omega.{arith}
use mathlib.Core.Path.{ap, ◌∙◌}
use lib.ListN.{get_or}
use Rattle.image_layout.specs.Open.{pool_words}
use Rattle.infer_context.proofs.operand.Goals as goal

pub returns : goal.returns
returns c = λ h. c.section_word.ensures ∙ ap (λ (k : ℕ). get_or (pool_words c.args.l.now) k 0) (c.after.ensures (omega arith))
