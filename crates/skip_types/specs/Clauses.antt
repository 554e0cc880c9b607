-- Contracts that are too long for a line, each called after its function.
use Rattle.std.specs.Prelude.{ℕ, List, ◌≡◌}
use Rattle.std.proofs.Math.Option.{Option}
use Rattle.image_words.specs.Gives.{MaybeAt}
use Rattle.image_words.specs.Verdict.{section_words}
use Rattle.pool_types.specs.TypeAt.{TypeStands}
use Rattle.rules.specs.Syntax.{ResolvedType}

-- the place behind a type that may stand there
abbrev pub SkipsMaybeType : List ℕ → ℕ → ℕ → Type 0
SkipsMaybeType pool at r =
    (names : ℕ) (o : Option ResolvedType) (n : ℕ) → MaybeAt (section_words pool) (TypeStands names (section_words pool)) o at n → r ≡ n
