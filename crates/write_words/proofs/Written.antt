-- Laws: words written one after the other, as one run.
use Prim.Native.Nat.{ℕ, ◌+◌, ◌*◌, ◌<◌, ◌≤◌}
use native.Mathlib.Omega.{arith}
use native.Mathlib.Numerals.{add-one}
use mathlib.Core.Path.{◌≡◌, refl, sym, ap, subst, ◌∙◌}
use mathlib.Core.List.{List, [], ◌∷◌, ◌++◌}
use lib.ListN.{length, take, get_or, length-append}
use lib.Seq.{take-suc, take_all}
use Rattle.words.specs.Puts.{put, puts}
use Rattle.words.proofs.Puts.{puts_append}
use Rattle.write_words.specs.Written.{Written}

module _ (limit to : ℕ) where
  pub written_none : (xs : List ℕ) → Written limit to [] xs to xs
  unfolding puts
  written_none xs = record { so = λ h. (omega arith, refl) }

  pub written_one : (w : ℕ) (xs : List ℕ) (r : ℕ) (ys : List ℕ) → (r ≡ to + 4) × (ys ≡ put limit to w xs) → Written limit to (w ∷ []) xs r ys
  unfolding puts
  written_one w xs r ys e = record { so = λ h. (omega (arith, e.0), e.1) }

  pub written_two : (v w : ℕ) (xs : List ℕ) (r : ℕ) (ys : List ℕ) → (r ≡ to + 8) × (ys ≡ put limit (to + 4) w (put limit to v xs)) → Written limit to (v ∷ w ∷ []) xs r ys
  unfolding puts
  written_two v w xs r ys e = record { so = λ h. (omega (arith, e.0), e.1) }

  -- words that would end past a billion
  pub written_far : (ws xs : List ℕ) → 1000000000 < to + 4 * length ws → Written limit to ws xs to xs
  written_far ws xs l = record { so = λ h. absurd (omega (arith, l, h)) }

  -- a run behind a run
  pub written_then : {vs ws xs ys zs : List ℕ} {a r : ℕ} → Written limit to vs xs a ys → Written limit a ws ys r zs → Written limit to (vs ++ ws) xs r zs
  written_then {vs} {ws} {xs} {ys} {zs} {a} {r} v w = record {
    so = λ h.
        let l = length-append vs ws in
        let p = v.so (omega (arith, l)) in
        let q = w.so (omega (arith, l, p.0)) in (
          omega (arith, l, p.0, q.0),
          q.1 ∙ ap (λ (k : ℕ). puts limit k ws ys) p.0 ∙ ap (puts limit (to + 4 * length vs) ws) p.1 ∙ sym (puts_append limit to vs ws xs),
        );
  }

  -- a word behind the first i of a run
  pub written_more : (ws : List ℕ) (i : ℕ) → i < length ws → {xs ys zs : List ℕ} {a r w : ℕ} → Written limit to (take i ws) xs a ys → w ≡ get_or ws i 0 → Written limit a (w ∷ []) ys r zs → Written limit to (take (i + 1) ws) xs r zs
  written_more ws i l {xs} {ys} {zs} {a} {r} v e w =
      let q : take i ws ++ (get_or ws i 0 ∷ []) ≡ take (i + 1) ws = rw add-one (sym (take-suc ws i 0 l)) in
      subst (λ (vs : List ℕ). Written limit to vs xs r zs) q (written_then v (subst (λ (x : ℕ). Written limit a (x ∷ []) ys r zs) e w))

  pub written_all : (ws xs ys : List ℕ) (i r : ℕ) → length ws ≤ i → Written limit to (take i ws) xs r ys → Written limit to ws xs r ys
  written_all ws xs ys i r l w = subst (λ (vs : List ℕ). Written limit to vs xs r ys) (take_all i ws l) w
