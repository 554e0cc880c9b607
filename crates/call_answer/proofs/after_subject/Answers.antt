-- `call_answer::after_subject` meets its contract. Assumes nothing.
use Rattle.expected_functions.proofs.AskedOf.{asked}
use Rattle.call_answer.proofs.Splits.{are_signatures, is_projection, few_projected}
use Rattle.call_answer.proofs.after_subject.Goals as goal

pub expected_functions-requires : goal.expected_functions-requires
expected_functions-requires c = (c.requires.0, asked c.requires.1)

pub returns-in-Signatures : goal.returns-in-Signatures
returns-in-Signatures c = λ a few. are_signatures a.schema a.impl a.trait c.in-Signatures.is (c.expected_functions.ensures (asked a))

pub returns-in-Projection : goal.returns-in-Projection
returns-in-Projection c = λ a few. let e = c.in-Projection.is in is_projection a.schema a.impl a.trait e (c.project.ensures a (few_projected a.schema a.impl a.trait e few))
