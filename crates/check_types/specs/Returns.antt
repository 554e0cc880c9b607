-- The last step of the check: the returns.
use Rattle.std.specs.Prelude.{ℕ, ◌∷◌, ◌++◌}
use Rattle.std.proofs.Math.Option.{Option}
use Rattle.rules.specs.Syntax.{ResolvedType}
use Rattle.rules.specs.Types.{same_return, return_words, normalize_return}
use Rattle.rules.specs.Refusal.{Result, ensure, with_detail}

-- an actual and an expected return
unfoldable pub check_return : ℕ → Option ResolvedType → Option ResolvedType → Result (Unit {0})
check_return f a e = ensure (same_return (normalize_return a) e) (with_detail 6 f (4 ∷ (return_words e ++ return_words (normalize_return a))))
