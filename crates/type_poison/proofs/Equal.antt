-- Equal runs say the same of poison. Assumes nothing.
use mathlib.Core.Path.{sym, ap, ◌∙◌}
use Rattle.type_poison.specs.Equal.{EqualFlags}
use Rattle.type_poison.proofs.Walk.{poisoned}
use Rattle.type_poison.proofs.Poison.{poison_run}

pub equal_flags : EqualFlags
equal_flags a b e m t p n u q = p.poison ∙ sym (poison_run m t p.good) ∙ ap poisoned (sym p.run ∙ e ∙ q.run) ∙ poison_run n u q.good ∙ sym q.poison
