-- `check_types::check_param` meets its contract. Assumes nothing.
use Rattle.check_types.proofs.Checks.{name_then_type}
use Rattle.check_types.proofs.check_param.Goals as goal

pub returns : goal.returns
returns c = λ rows a e x y h i. name_then_type _ a e x y c.first_refusal.ensures c.check_name-name.ensures (c.check_type-ty.ensures rows a.ty e.ty h i)
