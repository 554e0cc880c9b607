-- `utf8::well_formed` meets its contract. Assumes nothing.
use mathlib.Core.Path.{sym, ◌∙◌}
use native.Mathlib.Omega.{arith}
use Rattle.utf8.proofs.AsciiLaws.{from_there}
use Rattle.utf8.proofs.Walk.{goes_on, stops, ended}
use Rattle.utf8.proofs.well_formed.Goals as goal

pub loop-byte-init : goal.loop-byte-init
loop-byte-init c = from_there c.args.text.now _ c.behind_ascii.ensures

pub returns-in_default : goal.returns-in_default
returns-in_default c =
    let l = c.loop-byte in
    sym (stops _ l.d l.byte-index (omega arith) c.in_default.ensures) ∙ l.invariant

pub loop-byte-preserved : goal.loop-byte-preserved
loop-byte-preserved c =
    let l = c.loop-byte in
    sym (goes_on _ l.d l.byte-index (omega arith) c.in-Some.ensures) ∙ l.invariant

pub returns : goal.returns
returns c = let l = c.loop-byte in sym (ended _ l.d l.byte-index (omega arith)) ∙ l.invariant
