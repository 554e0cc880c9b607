-- Laws: a name with its type stands where its name does, and the type behind it.
use Prim.Native.Nat.{ℕ, ◌+◌}
use mathlib.Core.List.{List}
use Rattle.rules.specs.Reader.{Reader}
use Rattle.rules.specs.ReadTypes.{param}
use Rattle.image_words.proofs.Gives.{Gives, then, given, below_then}
use Rattle.pool_types.specs.ParamAt.{ParamAt}

pub param_gives : {A : Type 0} (names : ℕ) (ws : List ℕ) (Q : A → ℕ → ℕ → Type 0) {r : Reader A} → ((at : ℕ) → Gives r ws at (λ t n. Q t at n)) → (at : ℕ)
    → Gives (param names r) ws at (λ p n. ParamAt names ws Q p at n)
unfolding param
param_gives names ws Q q at = below_then (λ x i l. then (q (at + 1)) (λ t n h. given _ (record { name_at = i; name_below = l; type_at = h })))
