-- `replay_verdict::cases::one` meets its contract. Assumes nothing.
use borrow.Author.Rules.{rules}
use native.Mathlib.Omega.{arith}
use mathlib.Core.Path.{◌≡◌, sym, ap, ◌∙◌}
use Rattle.replay_cases.specs.declared.verdict.Compared.{Compared}
use Rattle.replay_verdict.specs.Replayed.{number_of}
use Rattle.replay_verdict.proofs.Verdicts.{of_the_call, of_the_other}
use Rattle.replay_verdict.proofs.Tellings.{told_of_the_call, told_of_the_other}
use Rattle.replay_verdict.proofs.cases.one.Goals as goal

pub returns-then-c-number_of : goal.returns-then-c-number_of
returns-then-c-number_of c =
    let a = c.args in
    let call = number_of a.call in
    let n : a.c.call ≡ call → ⊥ = λ e. c.if-c-number_of.true (e ∙ sym c.number_of.ensures) in
    (of_the_other a.file.now a.c call a.s.tally n, told_of_the_other a.file.now a.label.now a.c call n (search rules))

pub counted-requires : goal.counted-requires
counted-requires c = let e = ap (λ (r : Compared). r.bytes) c.compare-compared.ensures in (search rules, omega (arith, e), search rules)

pub returns : goal.returns
returns c =
    let a = c.args in
    let call = number_of a.call in
    let e = c.if-c-number_of.false ∙ c.number_of.ensures in
    (of_the_call a.file.now a.c call a.s.tally e c.compare-compared.ensures c.counted.ensures, told_of_the_call a.file.now a.label.now a.c call e c.compare-compared.ensures c.tell-place.ensures)
