-- `replay_verdict::cases::replayed` meets its contract: what is left of the cases decides what they come to and what is told. A
use Prim.Native.Nat.{◌-◌, min}
use mathlib.Core.Path.{◌≡◌, ◌∙◌}
use native.Mathlib.Omega.{arith}
use lib.ListN.{length}
use borrow.Author.Rules.{rules}
use Rattle.lines.proofs.Tells.{tells_inside}
use Rattle.replay_cases.proofs.Cases.{read_askable}
use Rattle.replay_verdict.specs.Replayed.{number_of}
use Rattle.replay_verdict.proofs.Verdicts.{grows, starts, goes_on, stops, ends}
use Rattle.replay_verdict.proofs.Tellings.{told_starts, told_more, told_stops, told_ends}
use Rattle.replay_verdict.proofs.cases.replayed.Goals as goal

pub loop-i-init : goal.loop-i-init
loop-i-init c =
    let a = c.args in
    let n = c.word_at-count in
    let first : c.min-at.result ≡ min 4 (length a.file.now) = omega (arith, c.min-at.ensures) in
    let s = starts a.file.now (number_of a.call) n.result c.min-at.result c.none.result n.ensures c.none.ensures first in
    (search rules, search rules, s.0, s.1, s.2, s.3, search rules, search rules, told_starts a.file.now a.names.now (number_of a.call) n.result c.min-at.result n.ensures first)

pub returns-in_default : goal.returns-in_default
returns-in_default c =
    let a = c.args in
    let l = c.loop-i in
    let r = c.in_default.ensures in (
      stops a.file.now (number_of a.call) _ l.i l.at l.s.tally l.invariant.5 (omega arith) r.1,
      told_stops a.file.now a.names.now (number_of a.call) _ l.i l.at l.name (omega arith) r.1 l.invariant.6 l.invariant.8,
    )

pub one-s-requires : goal.one-s-requires
one-s-requires c = (read_askable c.args.file.now c.loop-i.at c.in-Some.c c.in-Some.ensures.1, omega arith, omega arith, omega arith, omega arith)

pub loop-i-preserved : goal.loop-i-preserved
loop-i-preserved c =
    let a = c.args in
    let l = c.loop-i in
    let k = c.in-Some.c in
    let r = c.in-Some.ensures in
    let o = c.one-s in
    let more = c.loop-i-test.true in
    let g = grows a.file.now k (number_of a.call) l.s.tally o.result.tally (read_askable a.file.now l.at k r.1) o.ensures.0 in (
      search rules,
      search rules,
      omega (arith, g.0),
      omega (arith, g.1),
      omega (arith, g.2),
      goes_on a.file.now (number_of a.call) _ l.i l.at l.s.tally l.invariant.5 k o.result.tally more r.1 o.ensures.0,
      tells_inside o.ensures.1,
      search rules,
      told_more a.file.now a.names.now (number_of a.call) _ l.i l.at l.name k c.end-end.result c.next-name.result more r.1 c.end-end.ensures.0 c.next-name.ensures l.invariant.6 l.invariant.8 o.ensures.1,
    )

pub returns : goal.returns
returns c =
    let a = c.args in
    let l = c.loop-i in (
      c.came.ensures ∙ ends a.file.now (number_of a.call) _ l.i l.at l.s.tally l.invariant.5 (omega arith) (omega arith),
      told_ends a.file.now a.names.now (number_of a.call) _ l.i l.at l.name (omega arith) l.invariant.6 l.invariant.8,
    )
