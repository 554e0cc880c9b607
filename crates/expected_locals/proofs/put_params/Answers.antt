-- `expected_locals::put_params` meets its contract. The loop's invariant: the rows before i are written. Assumes nothing.
use borrow.Author.Rules.{rules}
use native.Mathlib.Omega.{arith}
use Rattle.expected_locals.proofs.Puts.{start, more, ended, few}
use Rattle.expected_locals.proofs.put_params.Goals as goal

pub returns-then-count-gt-LOCAL_ROWS : goal.returns-then-count-gt-LOCAL_ROWS
returns-then-count-gt-LOCAL_ROWS c = λ rows ps w. absurd (omega (arith, few rows _ _ _ _ 0 ps w (omega arith), c.if-count-gt-LOCAL_ROWS.true))

pub loop-i-init : goal.loop-i-init
loop-i-init c = (omega arith, search rules, λ rows ps w. start rows _ _ _ _ ps w _ _ _)

pub loop-i-preserved : goal.loop-i-preserved
loop-i-preserved c = (omega arith, search rules, λ rows ps w. more rows _ _ _ _ ps _ _ _ _ _ _ (c.loop-i.invariant.2 rows ps w) (omega arith) (c.put_param-next.ensures rows))

pub returns : goal.returns
returns c = λ rows ps w. ended rows _ _ _ _ ps _ _ _ _ _ _ (c.loop-i.invariant.2 rows ps w) (omega arith) w c.put-next.ensures
