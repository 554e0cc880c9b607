-- `infer_result::operators::unary_allowed` meets its contract. Assumes nothing.
use mathlib.Core.Path.{sym, ◌∙◌}
use lib.Dec.{lit<}
use borrow.Author.Tests.{eq-eqb, ne_eqb}
use Rattle.rules.specs.Types.{BOOL}
use Rattle.codes.proofs.Codes.{primitive_in}
use Rattle.type_words.proofs.Trees.{plain_holds}
use Rattle.infer_result.proofs.OperatorsLaws.{allowed_signed, allowed_bool}
use Rattle.infer_result.proofs.operators.unary_allowed.Goals as goal

pub returns-then-op-eq0 : goal.returns-then-op-eq0
returns-then-op-eq0 c = λ names t p. c.is_signed_numeric.ensures names t p ∙ sym (allowed_signed _ t (eq-eqb _ 0 c.if-op-eq0.true))

pub returns : goal.returns
returns c = λ names t p. c.same_type.ensures.types names t p names BOOL (plain_holds names c.plain.ensures (primitive_in 0 (lit< tt))) ∙ sym (allowed_bool _ t (ne_eqb _ 0 c.if-op-eq0.false))
