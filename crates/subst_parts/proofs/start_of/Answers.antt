-- `subst_parts::start_of` meets its contract. Assumes nothing.
use mathlib.Core.Path.{refl, sym, ◌∙◌}
use native.Mathlib.Omega.{arith}
use Rattle.image_words.proofs.Steps.{true_false}
use Rattle.subst_parts.proofs.start_of.Goals as goal

pub overflow_sub-result : goal.overflow_sub-result
overflow_sub-result c = omega (arith, c.requires c.if-alias.true)

pub returns-then-alias : goal.returns-then-alias
returns-then-alias c = (λ e. (refl, omega arith), λ e. absurd (true_false (sym c.if-alias.true ∙ e)))

pub returns : goal.returns
returns c = (λ e. absurd (true_false (sym e ∙ c.if-alias.false)), λ e. (refl, refl))
