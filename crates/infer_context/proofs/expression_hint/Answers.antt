-- `infer_context::expression_hint` meets its contract. Assumes nothing.
use mathlib.Core.Path.{sym, ap, ◌∙◌}
use Rattle.infer_context.specs.PlaceKinds.{place_kind}
use Rattle.infer_context.proofs.Hints.{at_local, at_own, at_field, at_nowhere}
use Rattle.infer_context.proofs.expression_hint.Goals as goal

pub returns-in-Local : goal.returns-in-Local
returns-in-Local c = λ x i nest e n s. at_local x c.find_last.result (sym (c.place_kind-k.ensures ∙ ap place_kind c.kind_at.ensures) ∙ c.in-Local.is) _ c.operand.ensures (c.find_last.ensures _ x.locals i.locals) e s

pub returns-in-Own : goal.returns-in-Own
returns-in-Own c = λ x i nest e n s. at_own x c.some.result (sym (c.place_kind-k.ensures ∙ ap place_kind c.kind_at.ensures) ∙ c.in-Own.is) (c.some.ensures.0, rw c.some.ensures.1 (c.hold_type-h.ensures _ _ i.target i.stored).0) e s

pub returns-in-Field : goal.returns-in-Field
returns-in-Field c = λ x i nest e n s. at_field x c.field_hint.result (sym (c.place_kind-k.ensures ∙ ap place_kind c.kind_at.ensures) ∙ c.in-Field.is) (λ f r s. c.field_hint.ensures _ _ _ x i nest f r n s) e s

pub returns-in-Nowhere : goal.returns-in-Nowhere
returns-in-Nowhere c = λ x i nest e n s. at_nowhere x c.none.result (sym (c.place_kind-k.ensures ∙ ap place_kind c.kind_at.ensures) ∙ c.in-Nowhere.is) c.none.ensures e s
