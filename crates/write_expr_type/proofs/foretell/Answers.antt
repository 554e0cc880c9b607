-- `write_expr_type::foretell` meets its contract. The loop's invariant: what is told of the place is told of the whole. Assumes nothing.
use native.Mathlib.Omega.{arith}
use mathlib.Core.Path.{refl, sym, subst, ◌∙◌}
use Rattle.type_words.specs.Holds.{Holds}
use Rattle.infer_context.proofs.Nodes.{deep}
use Rattle.infer_context.proofs.Operands.{left_at, value_at}
use Rattle.infer_leaves.proofs.Plain.{bool_held, void_held, string_held}
use Rattle.write_expr_type.proofs.Arms.{told_literal, told_flag, told_text, told_local, told_self_ref, told_field, told_call, told_method, told_binary, told_unary, told_unknown, binary_told, binary_left}
use Rattle.write_expr_type.proofs.foretell.Goals as goal
use Rattle.write_expr_type.proofs.foretell.Goals.{in-Unary, in-Binary+else-h}

pub loop-inner-init : goal.loop-inner-init
loop-inner-init c = λ r h. h

pub returns-in-Literal : goal.returns-in-Literal
returns-in-Literal c = c.loop-inner.invariant _ (λ x i e n s. told_literal x _ (sym c.kind_at-k.ensures ∙ c.in-Literal.is) _ c.section_word.ensures c.literal_own.ensures e s)

pub returns-in-Flag : goal.returns-in-Flag
returns-in-Flag c = c.loop-inner.invariant _ (λ x i e n s. told_flag x _ (sym c.kind_at-k.ensures ∙ c.in-Flag.is) (bool_held _ c.plain.ensures) e s)

pub returns-in-Text : goal.returns-in-Text
returns-in-Text c = c.loop-inner.invariant _ (λ x i e n s. told_text x _ (sym c.kind_at-k.ensures ∙ c.in-Text.is) (string_held _ c.plain-in-Text.ensures) e s)

pub returns-in-Local : goal.returns-in-Local
returns-in-Local c = c.loop-inner.invariant _ (λ x i e n s. told_local x _ (λ d s. c.foretell_place.ensures x i _ d n s) (sym c.kind_at-k.ensures ∙ c.in-Local.is) e s)

pub returns-in-SelfRef : goal.returns-in-SelfRef
returns-in-SelfRef c = c.loop-inner.invariant _ (λ x i e n s. told_self_ref x _ (λ d s. c.foretell_place-in-SelfRef.ensures x i _ d n s) (sym c.kind_at-k.ensures ∙ c.in-SelfRef.is) e s)

pub returns-in-FieldAccess : goal.returns-in-FieldAccess
returns-in-FieldAccess c = c.loop-inner.invariant _ (λ x i e n s. told_field x _ (λ d s. c.foretell_place-in-FieldAccess.ensures x i _ d n s) (sym c.kind_at-k.ensures ∙ c.in-FieldAccess.is) e s)

pub returns-in-Call : goal.returns-in-Call
returns-in-Call c = c.loop-inner.invariant _ (λ x i e n s. told_call x _ (sym c.kind_at-k.ensures ∙ c.in-Call.is) (void_held _ c.plain-in-Call.ensures) e s)

pub returns-in-TraitMethodCall : goal.returns-in-TraitMethodCall
returns-in-TraitMethodCall c = c.loop-inner.invariant _ (λ x i e n s. told_method x _ (sym c.kind_at-k.ensures ∙ c.in-TraitMethodCall.is) (void_held _ c.plain-in-TraitMethodCall.ensures) e s)

pub returns-then-h : goal.returns-then-h
returns-then-h c = c.loop-inner.invariant _ (λ x i e n s. told_binary x _ (sym c.kind_at-k.ensures ∙ c.in-Binary.is) (λ op d f s. binary_told x _ op d f _ (c.foretell_binary-h.ensures x i _ op d f n refl s) c.if-h.true) e s)

pub returns-in-Unknown : goal.returns-in-Unknown
returns-in-Unknown c = c.loop-inner.invariant _ (λ x i e n s. told_unknown x _ (sym c.kind_at-k.ensures ∙ c.in-Unknown.is) e s)

pub loop-inner-smaller : goal.loop-inner-smaller
loop-inner-smaller c = omega (arith, c.loop-inner-test.true)

pub loop-inner-preserved : goal.loop-inner-preserved
loop-inner-preserved c =
    λ r h. c.loop-inner.invariant r (λ x i e n s. elim c.match-k.branch [
      | in-Binary+else-h p ↦ told_binary x r (sym c.kind_at-k.ensures ∙ p.in-Binary.is) (λ op d f s.
          let l = left_at _ _ refl _ _ (λ q. c.first_part-place.ensures (omega arith)) op d f s in
          subst (Holds _ r) (sym (binary_left x _ op d f _ (p.foretell_binary-h.ensures x i _ op d f n refl s) p.if-h.false)) (h x i d _ l)) e s
      | in-Unary p ↦ told_unary x r (sym c.kind_at-k.ensures ∙ p.in-Unary.is) (λ op f s. h x i f n (value_at _ _ refl _ _ (λ q. c.first_part-place.ensures (omega arith)) op f s)) e s
    ])

pub returns : goal.returns
returns c = c.loop-inner.invariant _ (λ x i e n s. absurd (omega (arith, deep e, s.nested.deep, c.loop-inner-test.false)))
