-- `infer_result::inferred::type_mismatch` meets its contract. Assumes nothing.
use Prim.Native.Nat.{ℕ}
use native.Mathlib.Omega.{arith}
use mathlib.Core.Path.{ap₂}
use mathlib.Core.List.{List, ◌∷◌, ◌++◌}
use Rattle.rules.specs.Words.{NONE}
use Rattle.rules.specs.Infer.{type_mismatch}
use Rattle.infer_result.proofs.inferred.type_mismatch.Goals as goal

pub returns : goal.returns
unfolding type_mismatch
returns c =
    λ names t u p q x.
    (λ z. omega arith, ap₂ (λ (a b : List ℕ). record { number = 20; function = x.function; second = NONE; detail = c.args.context ∷ (a ++ b) }) p.run q.run)
