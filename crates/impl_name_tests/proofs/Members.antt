-- Membership, whatever the order; tests of functions' names, one by one. Assumes nothing.
use Prim.Native.Nat.{ℕ}
use mathlib.Core.Path.{◌≡◌, refl, ap, ◌∙◌}
use mathlib.Core.Bool.{Bool, true, false, not}
use mathlib.Core.List.{List, [], ◌∷◌, ◌++◌}
use lib.Dec.{eqb}
use Rattle.rules.specs.Words.{member}
use Rattle.rules.specs.Syntax.{ImplFnDef}
use Rattle.rules.specs.Refusal.{Result, err, ◌>>=◌, ensure, in_function}
use Rattle.rules.specs.Project.{no_repeat, no_stranger}

-- the first of two that says true
abbrev either : Bool → Bool → Bool
either a b = elim a as (λ _. Bool) [ true ↦ true | false ↦ b ]

swap : (a b c : Bool) → either a (either b c) ≡ either b (either a c)
swap true true c = refl
swap true false c = refl
swap false true c = refl
swap false false c = refl

-- a number at the end or at the start
pub member_end : (x : ℕ) (xs : List ℕ) (y : ℕ) → member x (y ∷ xs) ≡ member x (xs ++ (y ∷ []))
unfolding member
member_end x [] y = refl
member_end x (z ∷ xs) y = swap (eqb x y) (eqb x z) (member x xs) ∙ ap (either (eqb x z)) (member_end x xs y)

-- what was seen matters by its members alone
pub repeat_same : (fs : List ImplFnDef) (xs ys : List ℕ) → ((x : ℕ) → member x xs ≡ member x ys) → no_repeat xs fs ≡ no_repeat ys fs
unfolding no_repeat member
repeat_same [] xs ys h = refl
repeat_same (f ∷ fs) xs ys h =
    ap (λ (b : Bool). ensure (not b) (in_function 9 f.name) >>= λ _. no_repeat (f.name ∷ xs) fs) (h f.name)
    ∙ ap (λ (r : Result (Unit {0})). ensure (not (member f.name ys)) (in_function 9 f.name) >>= λ _. r)
    (repeat_same fs (f.name ∷ xs) (f.name ∷ ys) (λ x. ap (either (eqb x f.name)) (h x)))

module _ (xs : List ℕ) (f : ImplFnDef) (fs : List ImplFnDef) where
  pub repeat_seen : member f.name xs ≡ true → no_repeat xs (f ∷ fs) ≡ err (in_function 9 f.name)
  unfolding no_repeat ensure ◌>>=◌
  repeat_seen e = ap (λ (b : Bool). ensure (not b) (in_function 9 f.name) >>= λ _. no_repeat (f.name ∷ xs) fs) e

  pub repeat_new : member f.name xs ≡ false → no_repeat xs (f ∷ fs) ≡ no_repeat (xs ++ (f.name ∷ [])) fs
  unfolding no_repeat ensure ◌>>=◌
  repeat_new e =
      ap (λ (b : Bool). ensure (not b) (in_function 9 f.name) >>= λ _. no_repeat (f.name ∷ xs) fs) e
      ∙ repeat_same fs (f.name ∷ xs) (xs ++ (f.name ∷ [])) (λ x. member_end x xs f.name)

  pub stranger_known : member f.name xs ≡ true → no_stranger xs (f ∷ fs) ≡ no_stranger xs fs
  unfolding no_stranger ensure ◌>>=◌
  stranger_known e = ap (λ (b : Bool). ensure b (in_function 10 f.name) >>= λ _. no_stranger xs fs) e

  pub stranger_found : member f.name xs ≡ false → no_stranger xs (f ∷ fs) ≡ err (in_function 10 f.name)
  unfolding no_stranger ensure ◌>>=◌
  stranger_found e = ap (λ (b : Bool). ensure b (in_function 10 f.name) >>= λ _. no_stranger xs fs) e
