-- `subst_parts::start_behind` meets its contract. Assumes nothing.
use mathlib.Core.Path.{refl}
use native.Mathlib.Omega.{arith}
use Rattle.subst_parts.specs.declared.Parts.{Parts}
use Rattle.subst_parts.proofs.PartsLaws.{behind_as}
use Rattle.subst_parts.proofs.start_behind.Goals as goal

pub overflow_sub-result : goal.overflow_sub-result
overflow_sub-result c = omega (arith, c.requires c.in-Two.is)

pub returns-then-n-lt-TYPE_WORDS : goal.returns-then-n-lt-TYPE_WORDS
returns-then-n-lt-TYPE_WORDS c = let a = c.args in behind_as a.node a.at a.left a.n _ Parts.Two c.in-Two.is (λ s. (refl, refl, omega arith, omega arith), λ s. absurd (omega (arith, s, c.if-n-lt-TYPE_WORDS.true)))

pub returns-in-Whole : goal.returns-in-Whole
returns-in-Whole c = let a = c.args in behind_as a.node a.at a.left a.n _ Parts.Whole c.in-Whole.is c.as_it_is.ensures

pub returns-in-One : goal.returns-in-One
returns-in-One c = let a = c.args in behind_as a.node a.at a.left a.n _ Parts.One c.in-One.is c.as_it_is-in-One.ensures

pub returns-in-Fixed : goal.returns-in-Fixed
returns-in-Fixed c = let a = c.args in behind_as a.node a.at a.left a.n _ Parts.Fixed c.in-Fixed.is c.as_it_is-in-Fixed.ensures

pub returns-else-n-lt-TYPE_WORDS : goal.returns-else-n-lt-TYPE_WORDS
returns-else-n-lt-TYPE_WORDS c = let a = c.args in behind_as a.node a.at a.left a.n _ Parts.Two c.in-Two.is (λ s. absurd (omega (arith, s, c.if-n-lt-TYPE_WORDS.false)), λ s. c.as_it_is-in-Two.ensures)

pub returns-in-Alias : goal.returns-in-Alias
returns-in-Alias c = let a = c.args in behind_as a.node a.at a.left a.n _ Parts.Alias c.in-Alias.is c.as_it_is-in-Alias.ensures
