-- Every row of the three tables holds, by computation.
use mathlib.Core.Path.{refl}
use Rattle.rules.specs.Computed.{computed}
use Rattle.rules.specs.Edges.{table, guards, texts, Answered}

pub p_cases : Answered table
unfolding computed
p_cases = refl

pub guarded : Answered guards
unfolding computed
guarded = refl

pub texts_told : Answered texts
unfolding computed
texts_told = refl
