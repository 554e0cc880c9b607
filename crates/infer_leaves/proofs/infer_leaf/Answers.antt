-- `infer_leaves::infer_leaf` meets its contract: each arm by the code that stands there. Assumes nothing.
use mathlib.Core.Path.{sym, ◌∙◌}
use lib.Dec.{lit<}
use Rattle.rules.specs.Types.{BOOL, STRING}
use Rattle.infer_leaves.proofs.Plain.{bool_held, string_held}
use Rattle.infer_leaves.proofs.Leaves.{of_literal, of_flag, of_text, of_local_or_self, of_field, of_call, of_method, of_no_leaf}
use Rattle.infer_leaves.proofs.infer_leaf.Goals as goal

pub returns-in-Literal : goal.returns-in-Literal
returns-in-Literal c = λ b u x i nest e n s o w. of_literal x o _ _ (sym c.kind_at-k.ensures ∙ c.in-Literal.is) (λ k low high s. c.infer_literal.ensures _ k low high n s o w x) e s

pub returns-in-Flag : goal.returns-in-Flag
returns-in-Flag c = λ b u x i nest e n s o w. of_flag x o _ _ (sym c.kind_at-k.ensures ∙ c.in-Flag.is) (λ k. c.ended.ensures _ o BOOL w (bool_held _ c.plain.ensures) x k) e s

pub returns-in-Text : goal.returns-in-Text
returns-in-Text c = λ b u x i nest e n s o w. of_text x o _ _ (sym c.kind_at-k.ensures ∙ c.in-Text.is) (λ k. c.ended-in-Text.ensures _ o STRING w (string_held _ c.plain-in-Text.ensures) x k) e s

pub returns-in-Local : goal.returns-in-Local
returns-in-Local c = λ b u x i nest e n s o w. of_local_or_self x o _ _ _ (sym c.kind_at-k.ensures) c.in-Local.in-Local-own.keys4 (λ d s k. c.infer_place.ensures x i _ d n s (lit< tt) (lit< tt) o w k) e s

pub returns-in-FieldAccess : goal.returns-in-FieldAccess
returns-in-FieldAccess c = λ b u x i nest e n s o w. of_field x o _ _ (sym c.kind_at-k.ensures ∙ c.in-FieldAccess.is) (λ d s k. c.infer_place-in-FieldAccess.ensures x i _ d n s (lit< tt) (lit< tt) o w k) e s

pub returns-in-Call : goal.returns-in-Call
returns-in-Call c = λ b u x i nest e n s o w. of_call x o _ _ (sym c.kind_at-k.ensures ∙ c.in-Call.is) _ c.operand.ensures (c.refused.ensures (lit< tt) (lit< tt) c.args.l.now.names.rows x.function) e s

pub returns-in-TraitMethodCall : goal.returns-in-TraitMethodCall
returns-in-TraitMethodCall c = λ b u x i nest e n s o w. of_method x o _ _ (sym c.kind_at-k.ensures ∙ c.in-TraitMethodCall.is) _ c.method_name.ensures (c.refused-in-TraitMethodCall.ensures (lit< tt) (lit< tt) c.args.l.now.names.rows x.function) e s

pub returns-in-Binary : goal.returns-in-Binary
returns-in-Binary c = λ b u x i nest e n s o w. of_no_leaf x o _ _ _ (sym c.kind_at-k.ensures) c.in-Binary.in-Binary-own.keys8 b u e s
