-- `project_impl::project` meets its contract. Assumes nothing.
use mathlib.Core.Path.{ap, ◌∙◌}
use Rattle.answers.specs.Refusals.{refusal_of}
use Rattle.answers.proofs.Calls.{comes_err, comes_same}
use Rattle.impl_rows.proofs.Has.{has, lacks}
use Rattle.expected_functions.proofs.AskedOf.{asked}
use Rattle.project_impl.proofs.WholeLaws.{no_message, with_message}
use Rattle.project_impl.proofs.project.Goals as goal

pub returns-in_default : goal.returns-in_default
returns-in_default c = λ a few. comes_err (no_message a.schema a.impl a.trait (lacks (c.in_default.ensures a.schema a.opened _ _ a.stand.target_at))) c.refused.ensures.0 (ap refusal_of c.refused.ensures.1 ∙ c.alone.ensures)

pub project_found-requires : goal.project_found-requires
project_found-requires c = (c.requires.0, asked c.requires.1)

pub returns : goal.returns
returns c =
    λ a few.
    let m = has (c.in-Some.ensures a.schema a.opened _ _ a.stand.target_at) in
    let e = with_message a.schema a.impl a.trait m.is in
    comes_same e (c.project_found.ensures (asked a) m.a
    (record { functions_end = a.stand.functions_end; functions_at = a.stand.functions_at; fields_end = m.behind; fields_at = m.stands.parts.fields_at; target_end = a.stand.target_end; target_at = a.stand.target_at })
    (λ v ws q. few v ws (e ∙ q)))
