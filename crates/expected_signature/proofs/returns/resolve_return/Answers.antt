use mathlib.Core.Path.{refl, sym, subst, ◌∙◌}
use mathlib.Core.Option.{none, some}
use native.Mathlib.Omega.{arith}
use Rattle.rules.specs.Substitute.{substitute_type}
use Rattle.image_layout.specs.Open.{pool_words}
use Rattle.type_words.specs.declared.HeldType.{HeldType}
use Rattle.type_words.specs.Holds.{Holds}
use Rattle.expected_signature.proofs.Places.{pool_small, expr_here, is_large, taken}
use Rattle.expected_signature.proofs.Says.{says_done, says_large, done_same}
use Rattle.expected_signature.proofs.Forms.{return_inside, none_at, resolved_at, expression_at}
use Rattle.expected_signature.proofs.returns.resolve_return.Goals as goal

pub overflow_add-at : goal.overflow_add-at
overflow_add-at c = omega (arith, pool_small c.requires.0.inside (return_inside _ _ _ _ c.requires.1.tree c.requires.1.stands))

pub returns-then-form-eq0 : goal.returns-then-form-eq0
returns-then-form-eq0 c =
    λ h. let a = c.args in
    let k = none_at a.l.now.names.rows (pool_words a.l.now) a.at h.behind h.schema h.seen h.tree h.stands (sym c.section_word-form.ensures ∙ c.if-form-eq0.true) in
    says_done k.0 (done_same refl k.1 (c.put_return.ensures a.l.now.names.rows none c.none.ensures))

pub overflow_add-at-then-form-eq1 : goal.overflow_add-at-then-form-eq1
overflow_add-at-then-form-eq1 c = omega (arith, pool_small c.requires.0.inside (return_inside _ _ _ _ c.requires.1.tree c.requires.1.stands))

pub returns-then-form-eq1 : goal.returns-then-form-eq1
returns-then-form-eq1 c =
    λ h. let a = c.args in
    let k = resolved_at a.l.now.names.rows (pool_words a.l.now) a.at h.behind h.schema h.seen h.tree h.stands (sym c.section_word-form.ensures ∙ c.if-form-eq1.true) in
    let t = c.hold_type-h.ensures k.ty h.behind k.stands.words_at k.stands.good in
    says_done k.is (done_same refl t.1 (c.put_return-then-form-eq1.ensures a.l.now.names.rows (some k.ty) (c.some.ensures.0, subst (λ (x : HeldType). Holds a.l.now.names.rows x k.ty) (sym c.some.ensures.1) t.0)))

pub overflow_add-at-2 : goal.overflow_add-at-2
overflow_add-at-2 c = omega (arith, pool_small c.requires.0.inside (return_inside _ _ _ _ c.requires.1.tree c.requires.1.stands))

pub returns-in_err-s : goal.returns-in_err-s
returns-in_err-s c =
    rw c.from_residual.ensures λ h. let a = c.args in
    let k = expression_at a.l.now.names.rows (pool_words a.l.now) a.at h.behind h.schema h.seen h.tree h.stands (λ e. c.if-form-eq0.false (c.section_word-form.ensures ∙ e)) (λ e. c.if-form-eq1.false (c.section_word-form.ensures ∙ e)) in
    says_large (k.large (is_large a.l.now.names.rows h.behind (substitute_type h.schema h.seen k.expr) (c.in_err-s.ensures h.schema h.opened h.seen h.views k.expr h.behind (expr_here k.stands))))

pub returns : goal.returns
returns c =
    λ h. let a = c.args in
    let k = expression_at a.l.now.names.rows (pool_words a.l.now) a.at h.behind h.schema h.seen h.tree h.stands (λ e. c.if-form-eq0.false (c.section_word-form.ensures ∙ e)) (λ e. c.if-form-eq1.false (c.section_word-form.ensures ∙ e)) in
    let t = taken a.l.now.names.rows h.behind c.in_ok-s.s (substitute_type h.schema h.seen k.expr) (c.in_ok-s.ensures h.schema h.opened h.seen h.views k.expr h.behind (expr_here k.stands)) in
    says_done (k.makes t.is) (done_same t.visits t.next (c.put_return-2.ensures a.l.now.names.rows (some t.t) (c.some-2.ensures.0, subst (λ (x : HeldType). Holds a.l.now.names.rows x t.t) (sym c.some-2.ensures.1) t.holds)))
