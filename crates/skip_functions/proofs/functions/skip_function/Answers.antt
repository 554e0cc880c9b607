-- `skip_functions::functions::skip_function` meets its contract. Assumes nothing.
use native.Mathlib.Omega.{arith}
use Rattle.skip_functions.proofs.StatementsLaws.{body_from}
use Rattle.skip_functions.proofs.FunctionsLaws.{maybe_from}
use Rattle.skip_functions.proofs.functions.skip_function.Goals as goal

pub returns-then-count-at : goal.returns-then-count-at
returns-then-count-at c = λ names strings f n h. absurd (omega (arith, h.name_at.inside, c.if-count-at.true, c.count.ensures))

pub returns : goal.returns
returns c =
    λ names strings f n h.
    let r = c.skip_params-returns.ensures.resolved names 32 f.params h.params_end h.params_at in
    let b = c.skip_maybe_type-body.ensures names f.return_type h.return_end (maybe_from names _ f.return_type h.return_end r h.return_at) in
    c.skip_body.ensures names strings f.body n (body_from names strings _ f.body n b h.body_at.parts)
