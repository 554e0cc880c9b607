-- `project_functions::one::project_one` meets its contract. Assumes nothing.
use borrow.Author.Rules.{rules}
use mathlib.Core.Path.{refl, sym, ap, ◌∙◌}
use native.Mathlib.Omega.{arith}
use borrow.Author.Tests.{not-true, not-false}
use Rattle.answers.specs.Refusals.{refusal_of}
use Rattle.project_functions.proofs.Entering.{small, params_here, all_enter, few, table, return_here, returns_too, holds}
use Rattle.project_functions.proofs.OneFunction.{missing, hit, not_alike, alike, in_context, body_at, name_is}
use Rattle.project_functions.proofs.one.project_one.Goals as goal

pub returns-in_default : goal.returns-in_default
returns-in_default c = λ k n impl message s. missing k impl message n (c.in_default.ensures impl.functions s.functions_at) c.refused.ensures.0 (ap refusal_of c.refused.ensures.1 ∙ c.at.ensures)

pub overflow_add-at : goal.overflow_add-at
overflow_add-at c = omega (arith, small c.requires.1 c.requires.0.inside)

pub enter_params-requires : goal.enter_params-requires
enter_params-requires c = (c.requires.0, params_here c.requires.1, search rules, search rules, search rules)

pub unwrap-e-requires : goal.unwrap-e-requires
unwrap-e-requires c = all_enter c.requires.1 c.enter_params.ensures

pub enter_return-requires : goal.enter_return-requires
enter_return-requires c = (c.requires.0, return_here c.requires.1 c.enter_params.ensures c.unwrap-e.ensures)

pub unwrap-t-requires : goal.unwrap-t-requires
unwrap-t-requires c = returns_too c.requires.1 c.enter_params.ensures c.unwrap-e.ensures c.enter_return.ensures

pub returns-then-not-c : goal.returns-then-not-c
returns-then-not-c c =
    λ k n impl message s.
    let f = c.in-Some.ensures impl.functions s.functions_at in
    let h = hit k impl message n f in
    not_alike k impl message n f (c.check_signature-c.ensures h.a _ h.stands k.signature (sym (name_is k impl message n)) (table k c.enter_params.ensures c.unwrap-e.ensures) (holds k c.enter_params.ensures c.unwrap-e.ensures c.enter_return.ensures c.unwrap-t.ensures)) (not-true _ c.if-not-c.true)

pub put_signature-next-requires : goal.put_signature-next-requires
put_signature-next-requires c = c.requires.2

pub slice_bounds-project_function-end : goal.slice_bounds-project_function-end
slice_bounds-project_function-end c = omega (arith, c.enter_params.auto.names)

pub slice_bounds-project_function-end-2 : goal.slice_bounds-project_function-end-2
slice_bounds-project_function-end-2 c = omega (arith, c.enter_params.auto.words)

pub project_function-requires : goal.project_function-requires
project_function-requires c = (omega (arith, c.put_signature-next.auto.out, c.requires.2), omega (arith, c.enter_params.auto.names), omega (arith, c.enter_params.auto.words), search rules, few c.requires.1 c.enter_params.ensures c.unwrap-e.ensures)

pub returns : goal.returns
returns c =
    λ k n impl message s.
    let f = c.in-Some.ensures impl.functions s.functions_at in
    let h = hit k impl message n f in
    let t = table k c.enter_params.ensures c.unwrap-e.ensures in
    let r = holds k c.enter_params.ensures c.unwrap-e.ensures c.enter_return.ensures c.unwrap-t.ensures in
    alike k impl message n f (c.check_signature-c.ensures h.a _ h.stands k.signature (sym (name_is k impl message n)) t r) (not-false _ c.if-not-c.false)
    (c.put_signature-next.ensures _ k.signature.params k.signature.return_type t r)
    (c.project_function.ensures _ (in_context k impl message n f s refl t) h.a.body _ (body_at k impl message n f (c.body_start-body.ensures h.a _ h.stands)) k.signature.return_type r)
