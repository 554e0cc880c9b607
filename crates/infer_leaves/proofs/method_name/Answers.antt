-- `infer_leaves::method_name` meets its contract. Assumes nothing.
use native.Mathlib.Omega.{arith}
use mathlib.Core.Path.{◌≡◌, ap, ◌∙◌}
use Prim.Native.Nat.{ℕ, ◌+◌}
use lib.ListN.{get_or}
use Rattle.image_layout.specs.Open.{pool_words}
use Rattle.infer_leaves.proofs.Leaves.{method_word}
use Rattle.infer_leaves.proofs.method_name.Goals as goal

pub returns : goal.returns
returns c =
    λ nest t x n e es s.
    let w = method_word s in
    let a : c.after.result ≡ c.args.at + 1 = c.after.ensures (omega (arith, w.0)) in
    c.operand.ensures (omega (arith, w.0)) ∙ ap (λ (k : ℕ). get_or (pool_words c.args.l.now) (k + 1) 0) a ∙ w.1
