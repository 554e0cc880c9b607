-- `write_expr_type::foretell_place` meets its contract. Assumes nothing.
use Rattle.rules.specs.Infer.{expression_hint}
use Rattle.write_expr_type.proofs.foretell_place.Goals as goal

pub returns : goal.returns
returns c = λ x i nest e n s. c.or_void.ensures _ (expression_hint x e) (c.expression_hint.ensures x i nest e n s)
