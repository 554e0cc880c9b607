-- A list, a dot and a list, compared with a third in its halves.
use mathlib.Core.Path.{◌≡◌, refl, ap, ap₂, ◌∙◌, sym}
use mathlib.Core.Bool.{Bool, true, false, ◌&&◌}
use mathlib.Core.List.{List, [], ◌∷◌, ◌++◌}
use Prim.Native.Nat.{ℕ, ◌+◌, ◌-◌, ◌≤◌}
use native.Mathlib.Omega.{arith}
use native.Mathlib.Numerals.{add-one}
use lib.Dec.{eqb}
use lib.ListN.{length, get_or, take, drop, length-append, length-drop}
use lib.Seq.{take_all, take-length, drop-cons, drop-append-add, get_or-append_seam}
use Rattle.rules.specs.Words.{same}
use Rattle.rules.proofs.Clash.{clash}
use Rattle.laws.proofs.Same.{same_self, same_false}
use Rattle.image_texts.proofs.All.{and-true, and_assoc}
use Rattle.image_texts.proofs.SameLaws.{same_cons, same_long, same_apart}

-- two halves, the first as long as a list
same_halves : (m n s : List ℕ) → length m ≤ length s → same (m ++ n) s ≡ same m (take (length m) s) && same n (drop (length m) s)
unfolding same
same_halves [] n s h = refl
same_halves (x ∷ m) n [] h = absurd (omega arith)
same_halves (x ∷ m) n (y ∷ s) h =
    same_cons x y (m ++ n) s
    ∙ ap (λ (b : Bool). eqb x y && b) (same_halves m n s (omega arith))
    ∙ sym (and_assoc (eqb x y) (same m (take (length m) s)) (same n (drop (length m) s)))
    ∙ ap (λ (b : Bool). b && same n (drop (length m) s)) (sym (same_cons x y m (take (length m) s)))

-- a list, a dot and a list: the lengths, the dot and the two halves decide
module _ (m n s : List ℕ) where
  pub joined_long : (length s ≡ length m + 1 + length n → ⊥) → same (m ++ 46 ∷ n) s ≡ false
  joined_long h = same_long (m ++ 46 ∷ n) s (λ e. h (omega (arith, length-append m (46 ∷ n))))

  pub joined_dotless : (get_or s (length m) 0 ≡ 46 → ⊥) → same (m ++ 46 ∷ n) s ≡ false
  joined_dotless d = same_apart (m ++ 46 ∷ n) s (length m) (λ e. d (sym e ∙ get_or-append_seam m 46 n 0))

  -- behind the dot as many bytes as the second half has, counted as the slice from there to the end counts them
  abbrev behind : List ℕ
  behind = take (length m + 1 + length n - (length m + 1)) (drop (length m + 1) s)

  pub joined_other : same n behind ≡ false → same (m ++ 46 ∷ n) s ≡ false
  joined_other e = same_false (m ++ 46 ∷ n) s (λ q.
      let size : length m + 1 + length n - (length m + 1) ≡ length n = omega arith in
      let end : drop (length m + 1) s ≡ n = ap (drop (length m + 1)) (sym q) ∙ drop-append-add m (46 ∷ n) 1 in
      let whole : behind ≡ n = ap₂ take size end ∙ take-length n in
      let self : same n behind ≡ true = ap (same n) whole ∙ same_self n in
      clash (cc))

  pub joined_first : length s ≡ length m + 1 + length n → get_or s (length m) 0 ≡ 46 → same n behind ≡ true → same (m ++ 46 ∷ n) s ≡ same m (take (length m) s)
  joined_first h d e =
      let dot : drop (length m) s ≡ 46 ∷ drop (length m + 1) s = rw (add-one, drop-cons s (length m) 0 (omega arith), d) in
      let end : behind ≡ drop (length m + 1) s = take_all (length m + 1 + length n - (length m + 1)) (drop (length m + 1) s) (omega (arith, length-drop (length m + 1) s)) in
      same_halves m (46 ∷ n) s (omega arith)
      ∙ rw (dot, ← end) (ap (λ (b : Bool). same m (take (length m) s) && b) (same_cons 46 46 n behind ∙ e) ∙ and-true (same m (take (length m) s)))
