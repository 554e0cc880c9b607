-- `call_answer::pass` meets its contract. Assumes nothing.
use Prim.Native.Nat.{ℕ}
use mathlib.Core.Path.{ap, ◌∙◌}
use Rattle.rules.specs.Words.{NONE}
use Rattle.rules.specs.Refusal.{with_name}
use Rattle.answers.specs.Refusals.{refusal_of}
use Rattle.answers.proofs.Calls.{comes_err, comes_same}
use Rattle.impl_trait.proofs.Found.{about, has_both, lacks_both}
use Rattle.call_answer.proofs.Splits.{none_found, both_found, few_behind}
use Rattle.call_answer.proofs.pass.Goals as goal

pub returns-in-Err : goal.returns-in-Err
returns-in-Err c =
    λ s o. let a = c.args in
    comes_err (none_found a.call a.number.0 s (lacks_both (c.in-Err.ensures s o))) c.refused.ensures.0
    (ap refusal_of c.refused.ensures.1 ∙ c.named.ensures ∙ ap (λ (k : ℕ). with_name k NONE c.name.result.0) c.number.ensures ∙ ap (with_name _ NONE) c.name.ensures)

pub after_subject-requires : goal.after_subject-requires
after_subject-requires c = let p = c.requires in (p.0, about p.1.opened (has_both (c.in-Ok.ensures p.1.schema p.1.opened)))

pub returns-in-Ok : goal.returns-in-Ok
returns-in-Ok c =
    λ s o. let a = c.args in
    let h = has_both (c.in-Ok.ensures s o) in
    let e = both_found a.call a.number.0 s h.is in
    comes_same e (c.after_subject.ensures (about o h) (few_behind a.call o a.number.0 e))
