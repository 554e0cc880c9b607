-- A refusal's detail words, of an array of 131. Assumes nothing.
use Prim.Native.Nat.{ℕ, min, ◌+◌, ◌<◌, ◌≤◌}
use native.Mathlib.Omega.{arith}
use native.Mathlib.Decide.{dec_le}
use native.Mathlib.Numerals.{add-one}
use mathlib.Core.Path.{◌≡◌, sym, ap, ◌∙◌}
use mathlib.Core.List.{List, [], ◌∷◌, ◌++◌, append-nil, append_assoc}
use lib.ListN.{length, get_or, take, set, length-take, length-append}
use lib.Seq.{take_all, take-suc, take-suc-set}
use Rattle.rules.specs.Refusal as rules
use Rattle.answers.specs.declared.refusal.Refusal.{Refusal}
use Rattle.answers.specs.Refusals.{detail_of, refusal_of, adding}

-- as many words as there are are all of them
pub detail_take : (r : Refusal) (n : ℕ) → length r.words ≡ 131 → n ≡ length (detail_of r) → take n r.words ≡ detail_of r
unfolding detail_of
detail_take r n w e = go (dec_le r.count 131)
  where
    m : length (take r.count r.words) ≡ min r.count (length r.words)
    m = length-take r.count r.words

    go : Dec (r.count ≤ 131) → take n r.words ≡ take r.count r.words
    go (yes s) = ap (λ (k : ℕ). take k r.words) (let q : n ≡ r.count = omega (arith, m, w) in q)
    go (no s) = take_all n r.words (omega (arith, m, w)) ∙ sym (take_all r.count r.words (omega (arith, w)))

-- a full array has no room for one more
pub full : (r : Refusal) → length r.words ≡ 131 → 131 ≤ r.count → length (detail_of r) < 131 → ⊥
unfolding detail_of
full r w n l = omega (arith, length-take r.count r.words, w)

-- one word more
pub added : (r : Refusal) (x : ℕ) → length r.words ≡ 131 → r.count < 131
    → refusal_of (record { number = r.number; function = r.function; second = r.second; words = set r.words r.count x; count = r.count + 1 }) ≡ adding (refusal_of r) (x ∷ [])
unfolding refusal_of detail_of
added r x w l =
    ap (λ (d : List ℕ). record { number = r.number; function = r.function.0; second = r.second.0; detail = d })
    (ap (λ (k : ℕ). take k (set r.words r.count x)) (add-one r.count) ∙ take-suc-set r.words r.count x (omega (arith, w)))

-- a run, word by word
module _ (r₀ : Refusal) (ws : List ℕ) where
  -- the first i words of it
  abbrev pub SoFar : ℕ → Refusal → Type 0
  SoFar i r = refusal_of r ≡ adding (refusal_of r₀) (take i ws)

  pub run_start : SoFar 0 r₀
  unfolding refusal_of
  run_start = ap (λ (d : List ℕ). record { number = r₀.number; function = r₀.function.0; second = r₀.second.0; detail = d }) (sym (append-nil (detail_of r₀)))

  module _ (i : ℕ) (r : Refusal) (so : SoFar i r) {n : ℕ} (all : n ≡ length ws) where
    pub run_room : i < n → length (detail_of r₀) + length ws ≤ 131 → length (detail_of r) < 131
    unfolding refusal_of
    run_room l h =
        let e : length (detail_of r) ≡ length (detail_of r₀ ++ take i ws) = ap (λ (x : rules.Refusal). length x.detail) so in
        omega (arith, e, length-append (detail_of r₀) (take i ws), length-take i ws, all)

    pub run_more : i < n → {x : ℕ} → x ≡ get_or ws i 0 → (q : Refusal) → refusal_of q ≡ adding (refusal_of r) (x ∷ []) → SoFar (i + 1) q
    run_more l {x} e q m =
        let d = (refusal_of r₀).detail in
        m ∙ ap (λ (y : rules.Refusal). adding y (x ∷ [])) so
        ∙ ap (λ (w : List ℕ). record { number = (refusal_of r₀).number; function = (refusal_of r₀).function; second = (refusal_of r₀).second; detail = w })
        (append_assoc d (take i ws) (x ∷ []) ∙ ap (λ (w : List ℕ). d ++ w) (ap (λ (y : ℕ). take i ws ++ (y ∷ [])) e ∙ sym (take-suc ws i 0 (omega (arith, all))) ∙ ap (λ (k : ℕ). take k ws) (sym (add-one i))))

    pub run_end : n ≤ i → refusal_of r ≡ adding (refusal_of r₀) ws
    run_end l = so ∙ ap (adding (refusal_of r₀)) (take_all i ws (omega (arith, all)))
