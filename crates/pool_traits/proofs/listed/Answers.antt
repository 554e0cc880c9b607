-- `pool_traits::listed` meets its contract: what the slice's search asks is what `member` asks.
use mathlib.Core.Path.{◌∙◌}
use Rattle.pool_traits.proofs.Different.{member_any}
use Rattle.pool_traits.proofs.listed.Goals as goal

pub returns : goal.returns
returns c = c.contains.ensures.value ∙ member_any _ _
