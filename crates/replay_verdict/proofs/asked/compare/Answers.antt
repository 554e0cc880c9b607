-- `replay_verdict::asked::compare` meets its contract. Assumes nothing.
use borrow.Author.Rules.{rules}
use native.Mathlib.Omega.{arith}
use mathlib.Core.Path.{sym}
use Rattle.replay_verdict.proofs.Verdicts.{take_filled, filled_length, lent_filled}
use Rattle.replay_verdict.proofs.asked.compare.Goals as goal

pub slice_bounds-ask-end : goal.slice_bounds-ask-end
slice_bounds-ask-end c = sym (filled_length c.args.c.output 65536 170 (omega arith))

pub slice_bounds-ask-end-2 : goal.slice_bounds-ask-end-2
slice_bounds-ask-end-2 c = sym (filled_length c.args.c.detail 1024 85 (omega arith))

pub ask-requires : goal.ask-requires
ask-requires c = let k = c.args.c in (search rules, omega (arith, filled_length k.output 65536 170 (omega arith)), omega (arith, filled_length k.detail 1024 85 (omega arith)))

pub returns : goal.returns
returns c =
    let a = c.args in
    let k = a.c in
    lent_filled a.file.now k _ _ (take_filled k.output 65536 170 (omega arith)) (take_filled k.detail 1024 85 (omega arith)) c.ask.ensures
