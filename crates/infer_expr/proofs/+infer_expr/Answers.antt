-- Each arm by the code that stands there, each operation by its operands' answers.
use Prim.Native.Nat.{ℕ, ◌+◌, ◌<◌}
use native.Mathlib.Omega.{arith}
use mathlib.Core.Path.{◌≡◌, refl, sym, subst, ◌∙◌}
use lib.ListN.{length}
use Rattle.rules.specs.Syntax.{Expr}
use Rattle.rules.specs.Infer.{infer_expr}
use Rattle.image_layout.specs.Open.{pool_words}
use Rattle.infer_result.specs.Says.{Says}
use Rattle.infer_context.proofs.Nodes.{deep, binary_word, unary_word}
use Rattle.infer_context.proofs.Operands.{left_at, right_at, value_at}
use Rattle.infer_expr.proofs.Arms.{of_binary, of_unary}
use Rattle.infer_expr.proofs.Operations.{left_refused, right_refused, both_typed, value_refused, value_typed}
use Rattle.infer_expr.proofs.+infer_expr.Goals as goal

pub returns-then-nest-eq0 : goal.returns-then-nest-eq0
returns-then-nest-eq0 t c = λ x i e n s o w. absurd (omega (arith, deep e, s.nested.deep, c.if-nest-eq0.true))

pub returns-then-a-eq0-2 : goal.returns-then-a-eq0-2
returns-then-a-eq0-2 t c = λ x i e n s o w. of_binary x o _ _ (sym c.kind_at-k.ensures ∙ c.in-Binary.is) (λ op d e s.
    let a = c.args in
    let v = binary_word op d e s in
    let f : a.at + 1 < length (pool_words a.l.now) → c.first_part-left.result ≡ a.at + 1 + 1 = λ h. c.first_part-left.ensures (omega arith) in
    let l = left_at a.nest _ refl a.at _ f op d e s in
    let r = right_at a.nest _ refl a.at _ f op d e s _ c.skip_expr-right.ensures in
    subst (λ (y : ℕ). Says a.l.now.names.rows x.function (infer_expr x (Expr.binary y d e) o a.context) c.end_binary-a.result) (c.operand-op.ensures (omega (arith, v.0)) ∙ v.1)
    (both_typed a.l.now.names.rows x o _ _ d e _ (c.infer_expr-a.ensures x i d _ l _ (c.binary_hint-hint.ensures x i _ d _ l e n r o w)) c.if-a-eq0.true _ (λ t p. c.infer_expr-a-then-a-eq0.ensures x i e n r _ (refl, p)) c.if-a-eq0-2.true _ (λ t p k. c.end_binary-a.ensures _ o t w p x k))) e s

pub returns-else-a-eq0-2 : goal.returns-else-a-eq0-2
returns-else-a-eq0-2 t c = λ x i e n s o w. of_binary x o _ _ (sym c.kind_at-k.ensures ∙ c.in-Binary.is) (λ op d e s.
    let a = c.args in
    let v = binary_word op d e s in
    let f : a.at + 1 < length (pool_words a.l.now) → c.first_part-left.result ≡ a.at + 1 + 1 = λ h. c.first_part-left.ensures (omega arith) in
    let l = left_at a.nest _ refl a.at _ f op d e s in
    let r = right_at a.nest _ refl a.at _ f op d e s _ c.skip_expr-right.ensures in
    subst (λ (y : ℕ). Says a.l.now.names.rows x.function (infer_expr x (Expr.binary y d e) o a.context) c.infer_expr-a-then-a-eq0.result) (c.operand-op.ensures (omega (arith, v.0)) ∙ v.1)
    (right_refused a.l.now.names.rows x o _ _ d e _ (c.infer_expr-a.ensures x i d _ l _ (c.binary_hint-hint.ensures x i _ d _ l e n r o w)) c.if-a-eq0.true _ (λ t p. c.infer_expr-a-then-a-eq0.ensures x i e n r _ (refl, p)) c.if-a-eq0-2.false)) e s

pub returns-else-a-eq0 : goal.returns-else-a-eq0
returns-else-a-eq0 t c = λ x i e n s o w. of_binary x o _ _ (sym c.kind_at-k.ensures ∙ c.in-Binary.is) (λ op d e s.
    let a = c.args in
    let v = binary_word op d e s in
    let f : a.at + 1 < length (pool_words a.l.now) → c.first_part-left.result ≡ a.at + 1 + 1 = λ h. c.first_part-left.ensures (omega arith) in
    let l = left_at a.nest _ refl a.at _ f op d e s in
    let r = right_at a.nest _ refl a.at _ f op d e s _ c.skip_expr-right.ensures in
    subst (λ (y : ℕ). Says a.l.now.names.rows x.function (infer_expr x (Expr.binary y d e) o a.context) c.infer_expr-a.result) (c.operand-op.ensures (omega (arith, v.0)) ∙ v.1)
    (left_refused a.l.now.names.rows x o _ _ d e _ (c.infer_expr-a.ensures x i d _ l _ (c.binary_hint-hint.ensures x i _ d _ l e n r o w)) c.if-a-eq0.false)) e s

pub returns-then-a-eq0-3 : goal.returns-then-a-eq0-3
returns-then-a-eq0-3 t c = λ x i e n s o w. of_unary x o _ _ (sym c.kind_at-k.ensures ∙ c.in-Unary.is) (λ op e s.
    let a = c.args in
    let v = unary_word op e s in
    let f : a.at + 1 < length (pool_words a.l.now) → c.first_part-value.result ≡ a.at + 1 + 1 = λ h. c.first_part-value.ensures (omega arith) in
    let q : c.operand-op-in-Unary.result ≡ op = c.operand-op-in-Unary.ensures (omega (arith, v.0)) ∙ v.1 in
    subst (λ (y : ℕ). Says a.l.now.names.rows x.function (infer_expr x (Expr.unary y e) o a.context) c.end_unary-a.result) q
    (value_typed a.l.now.names.rows x o _ _ e _ (c.infer_expr-a-in-Unary.ensures x i e n (value_at a.nest _ refl a.at _ f op e s) o w) c.if-a-eq0-3.true _ (λ t p k. c.end_unary-a.ensures (omega (arith, q, s.nested.good.0)) _ o t w p x k))) e s

pub returns-else-a-eq0-3 : goal.returns-else-a-eq0-3
returns-else-a-eq0-3 t c = λ x i e n s o w. of_unary x o _ _ (sym c.kind_at-k.ensures ∙ c.in-Unary.is) (λ op e s.
    let a = c.args in
    let v = unary_word op e s in
    let f : a.at + 1 < length (pool_words a.l.now) → c.first_part-value.result ≡ a.at + 1 + 1 = λ h. c.first_part-value.ensures (omega arith) in
    let q : c.operand-op-in-Unary.result ≡ op = c.operand-op-in-Unary.ensures (omega (arith, v.0)) ∙ v.1 in
    subst (λ (y : ℕ). Says a.l.now.names.rows x.function (infer_expr x (Expr.unary y e) o a.context) c.infer_expr-a-in-Unary.result) q
    (value_refused a.l.now.names.rows x o _ _ e _ (c.infer_expr-a-in-Unary.ensures x i e n (value_at a.nest _ refl a.at _ f op e s) o w) c.if-a-eq0-3.false)) e s

pub returns-in_default : goal.returns-in_default
returns-in_default t c = λ x i e n s. c.infer_leaf-in_default.ensures (λ q. c.in_default.not-Binary (c.kind_at-k.ensures ∙ q)) (λ q. c.in_default.not-Unary (c.kind_at-k.ensures ∙ q)) x i _ e n s
