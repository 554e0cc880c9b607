-- `infer_leaves::literal_own` meets its contract. Assumes nothing.
use lib.Dec.{lit<}
use Rattle.infer_leaves.proofs.Literals.{own_held, own_int, own_uint, own_float}
use Rattle.infer_leaves.proofs.literal_own.Goals as goal

pub returns-then-code-eq0 : goal.returns-then-code-eq0
returns-then-code-eq0 c = λ l names. own_held names _ 8 (own_int _ c.if-code-eq0.true) (lit< tt) c.plain.ensures

pub returns-then-code-eq1 : goal.returns-then-code-eq1
returns-then-code-eq1 c = λ l names. own_held names _ 4 (own_uint _ c.if-code-eq0.false c.if-code-eq1.true) (lit< tt) c.plain-then-code-eq1.ensures

pub returns : goal.returns
returns c = λ l names. own_held names _ 10 (own_float _ c.if-code-eq0.false c.if-code-eq1.false) (lit< tt) c.plain-2.ensures
