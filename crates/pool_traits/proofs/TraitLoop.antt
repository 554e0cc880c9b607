-- A trait's functions: the names seen so far stand beside the loop that reads them. A trait's return, by its code.
use Prim.Native.Nat.{ℕ, ◌+◌, ◌-◌, ◌<◌, ◌≤◌}
use mathlib.Core.Path.{◌≡◌, sym, ap, ◌∙◌}
use mathlib.Core.Bool.{Bool, true}
use mathlib.Core.List.{List, [], ◌∷◌, ◌++◌, append-nil}
use lib.ListN.{length, get_or, take, set}
use lib.Seq.{append_snoc}
use borrow.Author.Tests.{eq-eqb, ne_eqb}
use native.Mathlib.Omega.{arith}
use Rattle.std.specs.Prelude.{Option, Some, None}
use Rattle.rules.specs.Words.{member, all_different}
use Rattle.rules.specs.Syntax.{TraitFnDef}
use Rattle.rules.specs.Reader.{Reader, below, times}
use Rattle.rules.specs.ReadTypes.{resolved_type, type_expr}
use Rattle.rules.specs.ReadDefinitions.{trait_return, trait_function}
use Rattle.image_words.specs.Verdict.{Says}
use Rattle.image_words.proofs.Verdict.{Left}
use Rattle.image_words.proofs.Says.{stop, last, given, below_then, below_value, either_first, either_second}
use Rattle.image_words.specs.Loops.{tested}
use Rattle.image_words.proofs.Loops.{test_same, test_dead, test_more, test_stop, test_done, many_stop, many_tested}
use Rattle.pool_traits.specs.Different.{names_of, different_functions}
use Rattle.pool_traits.proofs.Different.{different_none, different_more, different_twice, take_more}
use Rattle.pool_traits.proofs.TraitAt.{trait_function_gives}

-- no name twice, these before the functions' own
abbrev fresh : List ℕ → List TraitFnDef → Bool
fresh seen fs = all_different (seen ++ names_of fs)

module _ (names : ℕ) where
  -- k functions more, some names before theirs
  abbrev pub rest : ℕ → List ℕ → Reader (Unit {0})
  rest k seen = tested (times k (trait_function names)) (fresh seen)

  module _ {ws : List ℕ} {at : ℕ} where
    pub functions_stop : Says (below 65) ws at None → Says (different_functions names) ws at None
    functions_stop s = stop _ (many_stop _ _ s)

    pub functions_start : {n : ℕ} → Says (below 65) ws at (Some n) → {w : ℕ} → w ≡ get_or ws at 0 → Left (rest (w - 0) []) n (different_functions names) ws at
    functions_start s e = record { so = λ d h. many_tested _ _ _ s e h }

  module _ {ws : List ℕ} {at next : ℕ} (n i : ℕ) (seen : List ℕ) (inv : Left (rest (n - i) (take i seen)) next (different_functions names) ws at) where
    pub turn_stop : i < n → Says (trait_function names) ws next None → Says (different_functions names) ws at None
    turn_stop b s = inv.so _ (test_stop _ n i b s)

    module _ (b : i < n) {m : ℕ} (s : Says (trait_function names) ws next (Some m)) {x : ℕ} (e : x ≡ get_or ws next 0) where
      -- its name was seen
      pub turn_twice : member x (take i seen) ≡ true → Says (different_functions names) ws at None
      turn_twice t = inv.so _ (test_more _ n i b (trait_function_gives names ws next) s (λ f q.
          test_dead _ (λ fs. fresh (take i seen) (f ∷ fs)) (λ fs.
          ap (λ (k : ℕ). all_different (take i seen ++ (k ∷ names_of fs))) (sym (e ∙ q.parts.name_at.is)) ∙ different_twice (take i seen) x (names_of fs) t)))

      -- its name is kept
      pub turn_more : i < length seen → Left (rest (n - (i + 1)) (take (i + 1) (set seen i x))) m (different_functions names) ws at
      turn_more l = record {
        so = λ d h. inv.so d (test_more _ n i b (trait_function_gives names ws next) s (λ f q.
            test_same _ (fresh (take (i + 1) (set seen i x))) (λ fs. fresh (take i seen) (f ∷ fs)) (λ fs.
            ap (λ (k : List ℕ). all_different (k ++ names_of fs)) (take_more seen i x l)
            ∙ ap all_different (append_snoc (take i seen) x (names_of fs))
            ∙ ap (λ (k : ℕ). all_different (take i seen ++ (k ∷ names_of fs))) (e ∙ q.parts.name_at.is)) h));
      }

    pub functions_done : n ≤ i → all_different (take i seen) ≡ true → Says (different_functions names) ws at (Some next)
    functions_done l h = inv.so _ (test_done _ _ n i l (ap all_different (append-nil (take i seen)) ∙ h))

  -- 0 no return, 1 a resolved type, 2 a type expression
  module _ {ws : List ℕ} {at : ℕ} where
    pub return_stop : Says (below 3) ws at None → Says (trait_return names) ws at None
    unfolding trait_return
    return_stop s = stop _ s

    module _ {n : ℕ} (s : Says (below 3) ws at (Some n)) {w : ℕ} (e : w ≡ get_or ws at 0) where
      pub return_none : w ≡ 0 → Says (trait_return names) ws at (Some n)
      unfolding trait_return
      return_none z = below_then _ _ s e (either_first _ _ (eq-eqb w 0 z) (given _))

      pub return_resolved : w ≡ 1 → {d : Option ℕ} → Says (resolved_type names) ws n d → Says (trait_return names) ws at d
      unfolding trait_return
      return_resolved o h = let z : w ≡ 0 → ⊥ = omega arith in below_then _ _ s e (either_second _ _ (ne_eqb w 0 z) (either_first _ _ (eq-eqb w 1 o) (last _ h)))

      pub return_expression : (w ≡ 0 → ⊥) → (w ≡ 1 → ⊥) → {d : Option ℕ} → Says (type_expr names) ws n d → Says (trait_return names) ws at d
      unfolding trait_return
      return_expression z o h = below_then _ _ s e (either_second _ _ (ne_eqb w 0 z) (either_second _ _ (ne_eqb w 1 o) (last _ h)))

pub ruleset function_steps = (functions_stop, functions_start, turn_stop, turn_twice, functions_done, different_none, below_value)

pub ruleset return_steps = (return_stop, return_none, return_resolved, return_expression)
