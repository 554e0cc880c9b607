-- `answers::refusal::Refusal::run` meets its contract: the words so far are the run's first.
use native.Mathlib.Omega.{arith}
use mathlib.Core.Path.{◌≡◌, refl, ap, ◌∙◌}
use mathlib.Core.List.{[]}
use borrow.Author.Rules.{rules}
use lib.ListN.{length}
use Rattle.type_words.proofs.Runs.{run_take}
use Rattle.answers.specs.Refusals.{refusal_of, adding}
use Rattle.answers.proofs.Details.{run_start, run_room, run_more, run_end}
use Rattle.answers.proofs.refusal.Refusal.run.Goals as goal

pub loop-w-init : goal.loop-w-init
loop-w-init c = λ _. run_start _ []

pub loop-w-preserved : goal.loop-w-preserved
loop-w-preserved c =
    λ l.
    let so = c.loop-w.invariant l in
    let t = c.loop-w-test.true in
    run_more _ _ _ _ so refl t refl c.word-r.result (c.word-r.ensures (run_room _ _ _ _ so refl t l))

pub returns : goal.returns
returns c =
    let wide : length c.args.ty.words ≡ 64 = search rules in
    let e = run_take c.args.ty c.count.result wide c.count.ensures.0 in
    (omega (arith, c.count.ensures), λ l. run_end _ _ _ _ (c.loop-w.invariant (omega (arith, l, ap length e))) refl c.loop-w-test.false ∙ ap (adding (refusal_of c.args.self)) e)
