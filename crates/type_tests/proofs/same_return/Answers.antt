-- `type_tests::same_return` meets its contract. Assumes nothing.
use Rattle.type_tests.proofs.Returns.{both_return, first_return, second_return}
use Rattle.type_tests.proofs.same_return.Goals as goal

pub returns-then-b : goal.returns-then-b
returns-then-b c i t h j u k = both_return i j _ _ t u h k c.if-a.true c.if-b.true c.same_type.ensures

pub returns-then-a : goal.returns-then-a
returns-then-a c i t h j u k = first_return i j _ _ t u h k c.if-a.true c.if-b.false

pub returns : goal.returns
returns c i t h j u k = second_return i j _ _ t u h k c.if-a.false
