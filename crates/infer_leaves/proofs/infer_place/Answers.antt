-- `infer_leaves::infer_place` meets its contract. Assumes nothing.
use Prim.Native.Nat.{ℕ}
use mathlib.Core.Path.{subst}
use Rattle.rules.specs.Refusal.{err, with_name}
use Rattle.rules.specs.Infer.{expression_hint}
use Rattle.infer_result.specs.Says.{Says}
use Rattle.infer_context.proofs.Nodes.{node}
use Rattle.infer_leaves.proofs.Placed.{says_found, says_missing}
use Rattle.infer_leaves.proofs.infer_place.Goals as goal

pub returns-then-h : goal.returns-then-h
returns-then-h c = λ x i nest e n s l h o w k. says_found x o _ c.args.l.now.names.rows _ _ (expression_hint x e) k c.expression_hint-h.result (c.expression_hint-h.ensures x i nest e n s) _ c.if-h.true (λ t p. c.ended.ensures _ o t w p x k)

pub returns : goal.returns
returns c =
    λ x i nest e n s l h o w k. says_missing x o _ c.args.l.now.names.rows _ _ (expression_hint x e) k c.expression_hint-h.result (c.expression_hint-h.ensures x i nest e n s) _ c.if-h.false
    (subst (λ (y : ℕ). Says c.args.l.now.names.rows x.function (err (with_name c.args.number x.function y)) c.refused.result) (c.operand.ensures (node e s).0) (c.refused.ensures l h c.args.l.now.names.rows x.function))
