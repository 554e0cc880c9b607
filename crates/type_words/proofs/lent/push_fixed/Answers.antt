-- `type_words::lent::push_fixed` meets its contract: three words before the run, one after the other. Assumes nothing.
use mathlib.Core.Bool.{false}
use Rattle.type_words.proofs.Runs.{grows_behind}
use Rattle.type_words.proofs.Moved.{lent_run, lent_none}
use Rattle.type_words.proofs.lent.push_fixed.Goals as goal

pub returns-in_err-g : goal.returns-in_err-g
returns-in_err-g c =
    let g = c.push_front-2.ensures in
    let run = lent_run _ c.in_ok-f.was (c.push_front.ensures.0 false) in
    (λ p. lent_none _ p 66 c.in_err-g.was c.from_residual-in_err-g.ensures (grows_behind (g.0 p) run), g.1)

pub returns : goal.returns
returns c =
    let h = c.push_front-3.ensures in
    let run = lent_run _ c.in_ok-f.was (c.push_front.ensures.0 false) in
    let run₂ = lent_run _ c.in_ok-g.was (grows_behind (c.push_front-2.ensures.0 false) run) in
    (λ p. grows_behind (h.0 p) run₂, h.1)
