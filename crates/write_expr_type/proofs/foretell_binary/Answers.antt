-- `write_expr_type::foretell_binary` meets its contract. Assumes nothing.
use Prim.Native.Nat.{ℕ, ◌+◌, ◌<◌}
use native.Mathlib.Omega.{arith}
use mathlib.Core.Path.{◌≡◌, subst, ◌∙◌}
use mathlib.Core.Option.{none}
use lib.ListN.{length}
use Rattle.type_words.specs.Holds.{MaybeHolds}
use Rattle.image_layout.specs.Open.{pool_words}
use Rattle.infer_context.proofs.Nodes.{binary_word}
use Rattle.infer_context.proofs.Operands.{left_at, right_at}
use Rattle.infer_leaves.proofs.Plain.{bool_held}
use Rattle.write_expr_type.proofs.Arms.{before_left, compares, computes}
use Rattle.write_expr_type.proofs.foretell_binary.Goals as goal

pub returns-then-op-ge4 : goal.returns-then-op-ge4
returns-then-op-ge4 c =
    λ x i outer op d e n z s.
    let a = c.args in
    let v = binary_word op d e s in
    subst (λ (y : ℕ). MaybeHolds a.l.now.names.rows c.some.result (before_left x y d e)) (c.operand-op.ensures (omega (arith, v.0)) ∙ v.1)
    (compares x a.l.now.names.rows _ d e c.some.result c.if-op-ge4.true (c.some.ensures.0, rw c.some.ensures.1 (bool_held _ c.plain.ensures)))

pub returns : goal.returns
returns c =
    λ x i outer op d e n z s.
    let a = c.args in
    let v = binary_word op d e s in
    let f : a.at + 1 < length (pool_words a.l.now) → c.first_part-left.result ≡ a.at + 1 + 1 = λ h. c.first_part-left.ensures (omega arith) in
    let l = left_at outer a.nest z a.at _ f op d e s in
    let r = right_at outer a.nest z a.at _ f op d e s _ c.skip_expr-right.ensures in
    subst (λ (y : ℕ). MaybeHolds a.l.now.names.rows c.binary_hint.result (before_left x y d e)) (c.operand-op.ensures (omega (arith, v.0)) ∙ v.1)
    (computes x a.l.now.names.rows _ d e c.binary_hint.result c.if-op-ge4.false (c.binary_hint.ensures x i _ d _ l e n r none c.none.ensures))
