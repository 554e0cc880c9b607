-- `infer_result::operators::result_type` meets its contract. Assumes nothing.
use lib.Dec.{lit<}
use borrow.Author.Tests.{le-ltb}
use Rattle.codes.proofs.Codes.{primitive_in}
use Rattle.type_words.proofs.Trees.{plain_holds}
use Rattle.infer_result.proofs.operators.result_type.Goals as goal

pub returns : goal.returns
returns c = λ names t p. rw (le-ltb _ 4 c.if-op-lt4.false) (plain_holds names c.plain.ensures (primitive_in 0 (lit< tt)))
