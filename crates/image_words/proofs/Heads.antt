-- The first word of what stands, and its parts.
use Prim.Native.Nat.{ℕ, ◌+◌, ◌<◌}
use mathlib.Core.Path.{◌≡◌, refl, sym, ap, ◌∙◌}
use mathlib.Core.List.{List, ◌∷◌, ◌++◌, append_assoc}
use native.Mathlib.Omega.{arith}
use lib.ListN.{length, drop, get_or, length-append, length-drop}
use lib.Seq.{drop-drop, drop-append_seam, get_or-drop}
use Rattle.image_words.specs.Stands.{Stands}

module _ {ws : List ℕ} {c : ℕ} {xs : List ℕ} {at n : ℕ} (s : Stands ws (c ∷ xs) at n) where
  -- the first word, and the others behind it
  pub head : get_or ws at 0 ≡ c
  head = let e : at ≡ at + 0 = omega arith in ap (λ (k : ℕ). get_or ws k 0) e ∙ sym (get_or-drop at ws 0 0) ∙ ap (λ (l : List ℕ). get_or l 0 0) s.left

  pub tail : Stands ws xs (at + 1) n
  tail = record { left = sym (drop-drop 1 at ws) ∙ ap (drop 1) s.left; next = omega (arith, s.next) }

  pub inside : at < length ws
  inside = omega (arith, length-drop at ws, ap length s.left)

-- one run behind another
module _ {ws : List ℕ} (xs ys : List ℕ) {at n : ℕ} (s : Stands ws (xs ++ ys) at n) where
  rest : drop (at + length xs) ws ≡ ys ++ drop n ws
  rest = sym (drop-drop (length xs) at ws) ∙ ap (drop (length xs)) (s.left ∙ append_assoc xs ys (drop n ws)) ∙ drop-append_seam xs (ys ++ drop n ws)

  pub first : Stands ws xs at (at + length xs)
  first = record { left = s.left ∙ append_assoc xs ys (drop n ws) ∙ ap (λ (l : List ℕ). xs ++ l) (sym rest); next = refl }

  pub second : Stands ws ys (at + length xs) n
  second = record { left = rest; next = omega (arith, s.next, length-append xs ys) }
