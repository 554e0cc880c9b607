-- `expected_locals::enter_return` meets its contract. Assumes nothing.
use native.Mathlib.Omega.{arith}
use mathlib.Core.Path.{refl, sym, ◌∙◌}
use Rattle.rules.specs.Substitute.{substitute_type}
use Rattle.image_layout.specs.Open.{pool_words}
use Rattle.expected_signature.proofs.Places.{pool_small, expr_here, is_large, taken}
use Rattle.expected_signature.proofs.Forms.{return_inside, none_at, resolved_at, expression_at}
use Rattle.expected_locals.proofs.Returns.{says_large, says_done, none_done}
use Rattle.expected_locals.proofs.enter_return.Goals as goal

pub overflow_add-result : goal.overflow_add-result
overflow_add-result c = let p = c.requires in omega (arith, pool_small p.0.inside (return_inside _ _ _ _ p.1.tree p.1.stands))

pub returns-then-form-eq0 : goal.returns-then-form-eq0
returns-then-form-eq0 c h =
    let a = c.args in
    let k = none_at a.l.now.names.rows (pool_words a.l.now) a.at h.behind h.schema h.seen h.tree h.stands (sym c.section_word-form.ensures ∙ c.if-form-eq0.true) in
    says_done k.0 k.1 (none_done _ _ _ c.none.ensures refl)

pub overflow_add-at : goal.overflow_add-at
overflow_add-at c = let p = c.requires in omega (arith, pool_small p.0.inside (return_inside _ _ _ _ p.1.tree p.1.stands))

pub returns-then-form-eq1 : goal.returns-then-form-eq1
returns-then-form-eq1 c h =
    let a = c.args in
    let k = resolved_at a.l.now.names.rows (pool_words a.l.now) a.at h.behind h.schema h.seen h.tree h.stands (sym c.section_word-form.ensures ∙ c.if-form-eq1.true) in
    let t = c.hold_type-h.ensures k.ty h.behind k.stands.words_at k.stands.good in
    says_done k.is t.1 (c.as_return.ensures a.l.now.names.rows k.ty t.0)

pub overflow_add-at-2 : goal.overflow_add-at-2
overflow_add-at-2 c = let p = c.requires in omega (arith, pool_small p.0.inside (return_inside _ _ _ _ p.1.tree p.1.stands))

pub returns-in_err-s : goal.returns-in_err-s
returns-in_err-s c = rw c.from_residual.ensures λ h.
    let a = c.args in
    let w = c.section_word-form.ensures in
    let k = expression_at a.l.now.names.rows (pool_words a.l.now) a.at h.behind h.schema h.seen h.tree h.stands (λ e. c.if-form-eq0.false (w ∙ e)) (λ e. c.if-form-eq1.false (w ∙ e)) in
    says_large (k.large (is_large a.l.now.names.rows h.behind (substitute_type h.schema h.seen k.expr) (c.in_err-s.ensures h.schema h.opened h.seen h.views k.expr h.behind (expr_here k.stands))))

pub returns : goal.returns
returns c h =
    let a = c.args in
    let w = c.section_word-form.ensures in
    let k = expression_at a.l.now.names.rows (pool_words a.l.now) a.at h.behind h.schema h.seen h.tree h.stands (λ e. c.if-form-eq0.false (w ∙ e)) (λ e. c.if-form-eq1.false (w ∙ e)) in
    let t = taken a.l.now.names.rows h.behind c.in_ok-s.s (substitute_type h.schema h.seen k.expr) (c.in_ok-s.ensures h.schema h.opened h.seen h.views k.expr h.behind (expr_here k.stands)) in
    says_done (k.makes t.is) t.next (c.as_return-2.ensures a.l.now.names.rows t.t t.holds)
