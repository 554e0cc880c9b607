-- `programs::call::answer_lines` meets its contract. Assumes nothing.
use Prim.Native.Nat.{ℕ}
use mathlib.Core.Path.{◌∙◌}
use native.Mathlib.Omega.{arith}
use lib.ListN.{length-replicate}
use Rattle.lines.proofs.Lengths.{WordFields}
use Rattle.programs.proofs.Printed.{tells_lowest}
use Rattle.programs.proofs.call.answer_lines.Goals as goal

pub returns : goal.returns
returns c =
    let a = c.args in
    let k = c.answer-a in
    let put = c.put_answer in
    let known = c.slice_known-2-1 in
    let fields : WordFields k.result = record { number = omega (arith, k.type_inv); function = omega (arith, k.type_inv); second = omega (arith, k.type_inv); size = omega (arith, k.type_inv); visits = omega (arith, k.type_inv) } in
    tells_lowest a.call a.image.now k.result _ _ k.ensures put.ensures (k.auto.output ∙ length-replicate {A = ℕ} 65536 0) fields (λ i. (known.given i).fits)
