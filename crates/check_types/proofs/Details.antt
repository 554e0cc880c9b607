-- The detail words of a mismatch, added one behind the other.
use Prim.Native.Nat.{ℕ, ◌+◌, ◌<◌, ◌≤◌}
use mathlib.Core.Path.{◌≡◌, refl, sym, ap, ◌∙◌}
use mathlib.Core.Bool.{true, false}
use mathlib.Core.List.{List, [], ◌∷◌, ◌++◌, append_assoc}
use mathlib.Core.Option.{Option, none, some}
use native.Mathlib.Omega.{arith}
use lib.ListN.{length, length-append}
use Rattle.rules.specs.Syntax.{ResolvedType}
use Rattle.rules.specs.Refusal as rules
use Rattle.rules.specs.Types.{return_words}
use Rattle.type_words.specs.declared.MaybeType.{MaybeType}
use Rattle.type_words.specs.Runs.{held_run}
use Rattle.type_words.specs.Holds.{MaybeHolds}
use Rattle.answers.specs.declared.refusal.Refusal.{Refusal}
use Rattle.answers.specs.Refusals.{detail_of, refusal_of, adding}
use Rattle.image_words.proofs.Steps.{true_false}

-- more words behind those of a refusal that the rules have
pub adds : (r q : Refusal) (e : rules.Refusal) (ws : List ℕ) → (length (detail_of r) + length ws ≤ 131 → refusal_of q ≡ adding (refusal_of r) ws) → refusal_of r ≡ e → length e.detail + length ws ≤ 131 → refusal_of q ≡ adding e ws
unfolding refusal_of
adds r q e ws f i l =
    let d : length (detail_of r) ≡ length e.detail = ap (λ (x : rules.Refusal). length x.detail) i in
    f (omega arith) ∙ ap (λ (x : rules.Refusal). adding x ws) i

-- a word more
pub adds_word : (r q : Refusal) (e : rules.Refusal) (w : ℕ) → (length (detail_of r) < 131 → refusal_of q ≡ adding (refusal_of r) (w ∷ [])) → refusal_of r ≡ e → length e.detail < 131 → refusal_of q ≡ adding e (w ∷ [])
adds_word r q e w f i l = adds r q e (w ∷ []) (λ m. f (omega arith)) i (omega arith)

-- a return's words
pub return_small : (names : ℕ) (m : MaybeType) (o : Option ResolvedType) → MaybeHolds names m o → length (return_words o) ≤ 65
unfolding return_words
return_small names m none h = omega arith
return_small names m (some t) h = omega (arith, h.1.count, h.1.small)

module _ (names : ℕ) (r : Refusal) (m : MaybeType) (o : Option ResolvedType) (h : MaybeHolds names m o) where
  pub added_none : m.some ≡ false → (q : Refusal) → refusal_of q ≡ adding (refusal_of r) (0 ∷ []) → refusal_of q ≡ adding (refusal_of r) (return_words o)
  unfolding return_words
  added_none s q e = go o h
    where
      go : (o : Option ResolvedType) → MaybeHolds names m o → refusal_of q ≡ adding (refusal_of r) (return_words o)
      go none h = e
      go (some t) h = absurd (true_false (sym h.0 ∙ s))

  pub added_some : m.some ≡ true → (p q : Refusal) → length (detail_of r) ≤ 66 → (length (detail_of r) < 131 → refusal_of p ≡ adding (refusal_of r) (1 ∷ []))
      → (length (detail_of p) + length (held_run m.ty) ≤ 131 → refusal_of q ≡ adding (refusal_of p) (held_run m.ty)) → refusal_of q ≡ adding (refusal_of r) (return_words o)
  unfolding return_words refusal_of
  added_some s p q l one run = go o h
    where
      go : (o : Option ResolvedType) → MaybeHolds names m o → refusal_of q ≡ adding (refusal_of r) (return_words o)
      go none h = absurd (true_false (sym s ∙ h))
      go (some t) h =
          let first = adds_word r p (refusal_of r) 1 one refl (omega arith) in
          let n : length (held_run m.ty) ≤ 64 = omega (arith, ap length h.1.run, h.1.count, h.1.small) in
          adds p q (adding (refusal_of r) (1 ∷ [])) (held_run m.ty) run first (omega (arith, length-append (detail_of r) (1 ∷ [])))
          ∙ ap (λ (d : List ℕ). record { number = r.number; function = r.function.0; second = r.second.0; detail = d })
          (append_assoc (detail_of r) (1 ∷ []) (held_run m.ty) ∙ ap (λ (w : List ℕ). detail_of r ++ (1 ∷ w)) h.1.run)

-- a return's words behind those of a refusal that the rules have
pub adds_return : (r q : Refusal) (e : rules.Refusal) (ws : List ℕ) → (length (detail_of r) ≤ 66 → refusal_of q ≡ adding (refusal_of r) ws) → refusal_of r ≡ e → length e.detail ≤ 66 → refusal_of q ≡ adding e ws
unfolding refusal_of
adds_return r q e ws f i l =
    let d : length (detail_of r) ≡ length e.detail = ap (λ (x : rules.Refusal). length x.detail) i in
    f (omega arith) ∙ ap (λ (x : rules.Refusal). adding x ws) i
