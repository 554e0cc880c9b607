-- Words passed one by one: what is seen in the end is what the rules say of the type. Assumes nothing.
use Prim.Native.Nat.{ℕ, ◌+◌, ◌-◌, ◌<◌, ◌≤◌}
use native.Mathlib.Omega.{arith}
use native.Mathlib.Decide.{ℕ_discrete}
use mathlib.Core.Path.{◌≡◌, refl, sym, ap, subst, ◌∙◌}
use mathlib.Core.Bool.{Bool, false, ◌||◌, or_assoc, or-false}
use mathlib.Core.List.{List}
use lib.ListN.{length, drop, get_or, length-drop}
use Rattle.rules.specs.Syntax.{ResolvedType, run}
use Rattle.rules.specs.Types.{contains_poison}
use Rattle.rules.specs.Kinds.{type_kind}
use Rattle.rules.specs.Good.{Good}
use Rattle.type_poison.specs.declared.Seen.{Seen}
use Rattle.type_poison.specs.Headers.{header_of, poison_words}
use Rattle.type_poison.specs.Passing.{Passes}
use Rattle.type_poison.proofs.Walk.{poisoned, header_size, step_at, poisoned_short}
use Rattle.type_poison.proofs.Poison.{poison_run}

-- the first i words of u are passed, the last of them is `before`, and what is seen with what the nodes to come say is what all say
pub record Passed (u : List ℕ) (i before : ℕ) (seen : Seen) : Type 0 where
  pub within : i ≤ seen.second
  pub after : 1 ≤ seen.second
  pub last : 1 ≤ i → before ≡ get_or u (i - 1) 0
  pub so : (seen.poison || poisoned (drop (seen.second - 1) u)) ≡ poisoned u

pub passed_none : (u : List ℕ) {before : ℕ} {seen : Seen} → seen.poison ≡ false → seen.second ≡ 1 → Passed u 0 before seen
passed_none u e₁ e₂ = record { within = omega arith; after = omega arith; last = λ l. absurd (omega arith); so = rw (e₁, e₂) }

module _ (u : List ℕ) {i before : ℕ} {seen : Seen} (p : Passed u i before seen) where
  pub passed_more : {word : ℕ} {r : Seen} → i < length u → word ≡ get_or u i 0 → Passes seen i before word r → Passed u (i + 1) word r
  passed_more {word} {r} l e h = go (ℕ_discrete i seen.second)
    where
      last : word ≡ get_or u (i + 1 - 1) 0
      last = let q : i ≡ i + 1 - 1 = omega arith in e ∙ ap (λ (k : ℕ). get_or u k 0) q

      n : ℕ
      n = header_of (type_kind before) word

      -- a node's second word: the node begins one place before
      node : i ≡ seen.second → Passed u (i + 1) word r
      node s =
          let here = h.0 s in
          let one : i - 1 + 1 ≡ i = omega (arith, p.after) in
          let size = (header_size (type_kind before) word).0 in
          let step : poisoned (drop (i - 1) u) ≡ (poison_words before word || poisoned (drop (i - 1 + n) u)) =
          step_at u (i - 1) before word n (omega arith) (p.last (omega (arith, p.after))) (e ∙ ap (λ (k : ℕ). get_or u k 0) (sym one)) refl in
          let next : r.second - 1 ≡ i - 1 + n = omega (arith, here.1, p.after) in
          record {
            within = omega (arith, here.1, size);
            after = omega (arith, here.1, size);
            last = λ _. last;
            so =
                rw (here.0, next) (or_assoc seen.poison (poison_words before word) (poisoned (drop (i - 1 + n) u)))
                ∙ ap (λ (b : Bool). seen.poison || b) (sym step)
                ∙ ap (λ (k : ℕ). seen.poison || poisoned (drop (k - 1) u)) s
                ∙ p.so;
          }

      go : Dec (i ≡ seen.second) → Passed u (i + 1) word r
      go (yes s) = node s
      go (no s) = subst (Passed u (i + 1) word) (sym (h.1 s)) (record { within = omega (arith, p.within, s); after = p.after; last = λ _. last; so = p.so })

  -- all words of a type
  pub passed_all : length u ≤ i → seen.poison ≡ poisoned u
  passed_all l =
      sym (or-false seen.poison)
      ∙ ap (λ (b : Bool). seen.poison || b) (sym (poisoned_short (drop (seen.second - 1) u) (omega (arith, length-drop (seen.second - 1) u, p.within))))
      ∙ p.so

pub passed_type : (names : ℕ) (t : ResolvedType) {i before : ℕ} {seen : Seen} → Passed (run t) i before seen → length (run t) ≤ i → Good names t → seen.poison ≡ contains_poison t
passed_type names t p l g = passed_all (run t) p l ∙ poison_run names t g
