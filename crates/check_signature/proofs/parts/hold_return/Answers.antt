-- `check_signature::parts::hold_return` meets its contract. Assumes nothing.
use native.Mathlib.Omega.{arith}
use Rattle.check_signature.proofs.Ends.{no_return, held_return}
use Rattle.check_signature.proofs.parts.hold_return.Goals as goal

pub returns-then-section_word-eq0 : goal.returns-then-section_word-eq0
returns-then-section_word-eq0 c = λ o n k. no_return _ _ o _ n _ k c.section_word.ensures c.if-section_word-eq0.true _ c.none.ensures

pub returns : goal.returns
returns c = λ o n k. held_return _ _ o _ n _ k c.section_word.ensures c.if-section_word-eq0.false _ (λ h. c.after-place.ensures (omega arith)) _ _ c.some.ensures (λ t m s g. (c.hold_type-h.ensures t m s g).0)
