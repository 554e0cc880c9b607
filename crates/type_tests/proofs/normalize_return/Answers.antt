-- `type_tests::normalize_return` meets its contract. Assumes nothing.
use mathlib.Core.Path.{sym, ◌∙◌}
use Rattle.type_tests.proofs.Returns.{void_return, other_return, no_return}
use Rattle.type_tests.proofs.normalize_return.Goals as goal

pub returns-then-word-eq-VOID : goal.returns-then-word-eq-VOID
returns-then-word-eq-VOID c names o m = void_return names _ _ o m c.if-return_type.true (sym c.word.ensures ∙ c.if-word-eq-VOID.true) c.none.ensures

pub returns-then-return_type : goal.returns-then-return_type
returns-then-return_type c names o m = other_return names _ o m c.if-return_type.true (λ e. c.if-word-eq-VOID.false (c.word.ensures ∙ e))

pub returns : goal.returns
returns c names o m = no_return names _ o m c.if-return_type.false
