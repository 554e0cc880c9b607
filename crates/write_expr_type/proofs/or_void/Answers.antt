-- `write_expr_type::or_void` meets its contract. Assumes nothing.
use mathlib.Core.Path.{sym, subst}
use Rattle.rules.specs.Types.{VOID}
use Rattle.type_words.specs.Holds.{Holds}
use Rattle.infer_leaves.proofs.Plain.{void_held}
use Rattle.write_expr_type.proofs.Arms.{or_some, or_none}
use Rattle.write_expr_type.proofs.or_void.Goals as goal

pub returns-then-m : goal.returns-then-m
returns-then-m c = λ names o w. or_some names c.args.m o VOID w c.if-m.true

pub returns : goal.returns
returns c = λ names o w. subst (Holds names c.plain.result) (sym (or_none names c.args.m o VOID w c.if-m.false)) (void_held names c.plain.ensures)
