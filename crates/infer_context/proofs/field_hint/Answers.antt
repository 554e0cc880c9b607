-- `infer_context::field_hint` meets its contract. Assumes nothing.
use native.Mathlib.Omega.{arith}
use mathlib.Core.Path.{sym, ap, ◌∙◌}
use Rattle.rules.proofs.Clash.{clash}
use Rattle.infer_context.specs.PlaceKinds.{place_kind}
use Rattle.infer_context.specs.declared.PlaceKind.{PlaceKind}
use Rattle.infer_context.proofs.Hints.{of_self_ref, of_other}
use Rattle.infer_context.proofs.field_hint.Goals as goal

pub returns-in-Own : goal.returns-in-Own
returns-in-Own c =
    λ names words lens x i nest f e n s.
    of_self_ref x c.field_type.result _ (λ h. c.first_part.ensures (omega arith)) f e s (sym (c.place_kind-k.ensures ∙ ap place_kind c.kind_at.ensures) ∙ c.in-Own.is) _ c.operand.ensures (c.field_type.ensures x.fields i.fields_end i.fields)

pub returns-in-Local : goal.returns-in-Local
returns-in-Local c =
    λ names words lens x i nest f e n s.
    of_other x c.none.result _ (λ h. c.first_part.ensures (omega arith)) f e s PlaceKind.Local (sym (c.place_kind-k.ensures ∙ ap place_kind c.kind_at.ensures) ∙ c.in-Local.is) (λ q. clash (cc)) c.none.ensures

pub returns-in-Field : goal.returns-in-Field
returns-in-Field c =
    λ names words lens x i nest f e n s.
    of_other x c.none-in-Field.result _ (λ h. c.first_part.ensures (omega arith)) f e s PlaceKind.Field (sym (c.place_kind-k.ensures ∙ ap place_kind c.kind_at.ensures) ∙ c.in-Field.is) (λ q. clash (cc)) c.none-in-Field.ensures

pub returns-in-Nowhere : goal.returns-in-Nowhere
returns-in-Nowhere c =
    λ names words lens x i nest f e n s.
    of_other x c.none-in-Nowhere.result _ (λ h. c.first_part.ensures (omega arith)) f e s PlaceKind.Nowhere (sym (c.place_kind-k.ensures ∙ ap place_kind c.kind_at.ensures) ∙ c.in-Nowhere.is) (λ q. clash (cc)) c.none-in-Nowhere.ensures
