-- `expected_locals::as_return` meets its contract. Assumes nothing.
use mathlib.Core.Path.{refl, sym, subst}
use mathlib.Core.Option.{some}
use Rattle.type_words.specs.declared.HeldType.{HeldType}
use Rattle.type_words.specs.Holds.{Holds}
use Rattle.expected_locals.proofs.as_return.Goals as goal

pub returns : goal.returns
returns c rows t h =
    record {
      holds = c.normalize_return.ensures rows (some t) (c.some.ensures.0, subst (λ (x : HeldType). Holds rows x t) (sym c.some.ensures.1) h);
      next = refl;
    }
