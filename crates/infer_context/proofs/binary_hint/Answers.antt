-- `infer_context::binary_hint` meets its contract. Assumes nothing.
use Rattle.rules.specs.Infer.{expression_hint, binary_hint}
use Rattle.infer_context.proofs.Hints.{or_held, or_next, held_if, held_not}
use Rattle.infer_context.proofs.binary_hint.Goals as goal

pub returns-then-a : goal.returns-then-a
unfolding binary_hint
returns-then-a c = λ x i nest d m s e n t o h. or_held _ c.expression_hint-a.result (expression_hint x d) _ (c.expression_hint-a.ensures x i nest d m s) c.if-a.true

pub returns-then-b : goal.returns-then-b
unfolding binary_hint
returns-then-b c = λ x i nest d m s e n t o h. or_next _ c.expression_hint-a.result (expression_hint x d) _ (c.expression_hint-a.ensures x i nest d m s) c.if-a.false _ (or_held _ c.expression_hint-b.result (expression_hint x e) _ (c.expression_hint-b.ensures x i nest e n t) c.if-b.true)

pub returns-then-op-lt4 : goal.returns-then-op-lt4
unfolding binary_hint
returns-then-op-lt4 c = λ x i nest d m s e n t o h. or_next _ c.expression_hint-a.result (expression_hint x d) _ (c.expression_hint-a.ensures x i nest d m s) c.if-a.false _ (or_next _ c.expression_hint-b.result (expression_hint x e) _ (c.expression_hint-b.ensures x i nest e n t) c.if-b.false _ (held_if _ _ c.args.expected o c.if-op-lt4.true h))

pub returns : goal.returns
unfolding binary_hint
returns c = λ x i nest d m s e n t o h. or_next _ c.expression_hint-a.result (expression_hint x d) _ (c.expression_hint-a.ensures x i nest d m s) c.if-a.false _ (or_next _ c.expression_hint-b.result (expression_hint x e) _ (c.expression_hint-b.ensures x i nest e n t) c.if-b.false _ (held_not _ _ c.none.result o c.if-op-lt4.false c.none.ensures))
