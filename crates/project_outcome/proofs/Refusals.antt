-- A refusal's detail, part by part; the refusals of a value by their numbers. Assumes nothing.
use Prim.Native.Nat.{ℕ, ◌+◌, ◌<◌, ◌≤◌}
use native.Mathlib.Omega.{arith}
use mathlib.Core.Path.{◌≡◌, sym, ap, ◌∙◌}
use mathlib.Core.List.{List, [], ◌∷◌, ◌++◌}
use lib.ListN.{length}
use borrow.Author.Tests.{eq-eqb, ne_eqb}
use Rattle.rules.specs.Refusal as rules
use Rattle.type_words.specs.Runs.{held_run}
use Rattle.answers.specs.declared.refusal.Refusal.{Refusal}
use Rattle.answers.specs.Refusals.{detail_of, refusal_of, adding}
use Rattle.infer_result.specs.declared.inferred.Inferred.{Inferred}
use Rattle.infer_result.specs.Says as says

-- words behind the detail that is known
pub more : (a b : Refusal) (e : rules.Refusal) (ws : List ℕ) → refusal_of a ≡ e → (length (detail_of a) + length ws ≤ 131 → refusal_of b ≡ adding (refusal_of a) ws) → length e.detail + length ws ≤ 131 → refusal_of b ≡ adding e ws
unfolding refusal_of
more a b e ws q h l = let d : length (detail_of a) ≡ length e.detail = ap (λ (x : rules.Refusal). length x.detail) q in h (omega (arith, d)) ∙ ap (λ (x : rules.Refusal). adding x ws) q

-- a word behind it
pub one_more : (a b : Refusal) (e : rules.Refusal) (w : ℕ) → refusal_of a ≡ e → (length (detail_of a) < 131 → refusal_of b ≡ adding (refusal_of a) (w ∷ [])) → length e.detail < 131 → refusal_of b ≡ adding e (w ∷ [])
one_more a b e w q h l = more a b e (w ∷ []) q (λ k. h (omega arith)) (omega arith)

module _ (f : ℕ) (r : Inferred) where
  abbrev with : List ℕ → rules.Refusal
  with d = record { number = r.number; function = f; second = r.second.0; detail = d }

  value_20 : r.number ≡ 20 → says.refusal_of f r ≡ with (r.word ∷ (held_run r.wanted ++ held_run r.ty))
  value_20 e = rw (eq-eqb r.number 20 e)

  value_21 : (r.number ≡ 20 → ⊥) → r.number ≡ 21 → says.refusal_of f r ≡ with (r.word ∷ held_run r.ty)
  value_21 n e = rw (ne_eqb r.number 20 n, eq-eqb r.number 21 e)

  pub value_else : (r.number ≡ 20 → ⊥) → (r.number ≡ 21 → ⊥) → says.refusal_of f r ≡ with []
  value_else n m = rw (ne_eqb r.number 20 n, ne_eqb r.number 21 m)

  -- a word and two runs behind the names
  pub of_20 : r.number ≡ 20 → (a b c d : Refusal) → refusal_of a ≡ with [] → (length (detail_of a) < 131 → refusal_of b ≡ adding (refusal_of a) (r.word ∷ []))
      → (length (held_run r.wanted) ≤ 64) × (length (detail_of b) + length (held_run r.wanted) ≤ 131 → refusal_of c ≡ adding (refusal_of b) (held_run r.wanted))
      → (length (held_run r.ty) ≤ 64) × (length (detail_of c) + length (held_run r.ty) ≤ 131 → refusal_of d ≡ adding (refusal_of c) (held_run r.ty)) → refusal_of d ≡ says.refusal_of f r
  of_20 e a b c d h i j k =
      let x : refusal_of b ≡ with (r.word ∷ []) = one_more a b (with []) r.word h i (omega arith) in
      let y : refusal_of c ≡ with (r.word ∷ held_run r.wanted) = more b c (with (r.word ∷ [])) (held_run r.wanted) x j.1 (omega (arith, j.0)) in
      more c d (with (r.word ∷ held_run r.wanted)) (held_run r.ty) y k.1 (omega (arith, j.0, k.0)) ∙ sym (value_20 e)

  pub of_21 : (r.number ≡ 20 → ⊥) → r.number ≡ 21 → (a b c : Refusal) → refusal_of a ≡ with [] → (length (detail_of a) < 131 → refusal_of b ≡ adding (refusal_of a) (r.word ∷ []))
      → (length (held_run r.ty) ≤ 64) × (length (detail_of b) + length (held_run r.ty) ≤ 131 → refusal_of c ≡ adding (refusal_of b) (held_run r.ty)) → refusal_of c ≡ says.refusal_of f r
  of_21 n e a b c h i j =
      let x : refusal_of b ≡ with (r.word ∷ []) = one_more a b (with []) r.word h i (omega arith) in
      more b c (with (r.word ∷ [])) (held_run r.ty) x j.1 (omega (arith, j.0)) ∙ sym (value_21 n e)
