use mathlib.Core.Path.{◌∙◌}
use Rattle.std.specs.Prelude.{Some, None}
use Rattle.std.proofs.lemmas.Bool.Decides.{Decides-eqb}
use Rattle.std.proofs.lemmas.Slice.Eq.{strip_prefix_is}
use Rattle.replay_cases.proofs.Filled.{apart, behind}
use Rattle.replay_cases.proofs.buffers.holds.Goals as goal

pub returns-in_default : goal.returns-in_default
returns-in_default c =
    let a = c.args in
    apart a.buffer.now a.stored.now a.fill (strip_prefix_is Decides-eqb a.buffer.now a.stored.now None c.in_default.ensures.cases)

pub returns : goal.returns
returns c =
    let a = c.args in
    let rest = c.in-Some.rest in
    c.untouched.ensures ∙ behind a.buffer.now a.stored.now a.fill rest.now (strip_prefix_is Decides-eqb a.buffer.now a.stored.now (Some rest) c.in-Some.ensures.cases)
