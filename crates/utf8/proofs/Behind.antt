-- Two well-formed texts, one behind the other.
use Prim.Native.Nat.{ℕ}
use mathlib.Core.Path.{◌≡◌}
use mathlib.Core.Bool.{Bool, true, false}
use mathlib.Core.List.{List, [], ◌∷◌, ◌++◌}
use mathlib.Core.Option.{Option, none, some}
use Rattle.rules.proofs.Clash.{clash}
use Rattle.rules.specs.Utf8.{Range, inside, follow, well_formed_from, well_formed}
use Rattle.utf8.specs.Encoding.{Joined}

-- what is due, and a well-formed text behind it
joined_from : (rs : List Range) (xs ys : List ℕ) → well_formed_from rs xs ≡ true → well_formed ys ≡ true → well_formed_from rs (xs ++ ys) ≡ true
unfolding well_formed_from
joined_from [] [] ys v w = w
joined_from (r ∷ rs) [] ys v w = clash (cc)
joined_from [] (x ∷ xs) ys v w = go (follow x) (λ rs v. joined_from rs xs ys v w) v
  where
    go : (o : Option (List Range)) → ((rs : List Range) → well_formed_from rs xs ≡ true → well_formed_from rs (xs ++ ys) ≡ true)
        → (elim o as (λ _. Bool) [ none ↦ false | some rs ↦ well_formed_from rs xs ]) ≡ true
        → (elim o as (λ _. Bool) [ none ↦ false | some rs ↦ well_formed_from rs (xs ++ ys) ]) ≡ true
    go none ih v = clash (cc)
    go (some rs) ih v = ih rs v
joined_from (r ∷ rs) (x ∷ xs) ys v w = go (inside r x) (λ v. joined_from rs xs ys v w) v
  where
    go : (t : Bool) → (well_formed_from rs xs ≡ true → well_formed_from rs (xs ++ ys) ≡ true)
        → (elim t as (λ _. Bool) [ true ↦ well_formed_from rs xs | false ↦ false ]) ≡ true
        → (elim t as (λ _. Bool) [ true ↦ well_formed_from rs (xs ++ ys) | false ↦ false ]) ≡ true
    go true ih v = ih v
    go false ih v = clash (cc)

pub joined : Joined
joined first second v w = joined_from [] first second v w
