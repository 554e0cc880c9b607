-- Words written into a prefix that is lent, seen from the whole.
use Prim.Native.Nat.{ℕ, ◌+◌, ◌≤◌}
use native.Mathlib.Decide.{dec_le}
use native.Mathlib.Nat.{lt_of_not-le}
use native.Mathlib.Omega.{arith}
use mathlib.Core.Path.{◌≡◌, sym, ap, ap₂, ◌∙◌}
use mathlib.Core.List.{List, ◌++◌, append_assoc}
use lib.ListN.{length, take, drop, take-append-drop}
use lib.Seq.{length-take-le, take-append-le, drop-append-le}
use Rattle.rules.specs.Words.{le}
use Rattle.words.specs.Puts.{splice, put}
use Rattle.words.proofs.Puts.{put_fits, put_past, length_put}

splice_front : (at : ℕ) (ys xs zs : List ℕ) → at + length ys ≤ length xs → splice at ys xs ++ zs ≡ splice at ys (xs ++ zs)
splice_front at ys xs zs h =
    append_assoc (take at xs ++ ys) (drop (at + length ys) xs) zs
    ∙ ap₂ (λ (a b : List ℕ). a ++ ys ++ b) (sym (take-append-le at xs zs (omega arith))) (sym (drop-append-le (at + length ys) xs zs h))

put_front : (limit to w : ℕ) (xs zs : List ℕ) → limit ≤ length xs → put limit to w xs ++ zs ≡ put limit to w (xs ++ zs)
put_front limit to w xs zs h =
    elim (dec_le (to + 4) limit) [
      | yes k ↦ ap (λ (l : List ℕ). l ++ zs) (put_fits limit to w xs k) ∙ splice_front to (le w) xs zs (omega (arith, k, h)) ∙ sym (put_fits limit to w (xs ++ zs) k)
      | no k ↦ ap (λ (l : List ℕ). l ++ zs) (put_past limit to w xs (lt_of_not-le k)) ∙ sym (put_past limit to w (xs ++ zs) (lt_of_not-le k))
    ]

-- what a prefix as long as the limit has room for is what ends at the limit or before; ys is what the prefix has come to
pub put_prefix : (limit to w : ℕ) (xs : List ℕ) {ys : List ℕ} → limit ≤ length xs → ys ≡ put (length (take limit xs)) to w (take limit xs) → ys ++ drop limit xs ≡ put limit to w xs
put_prefix limit to w xs h e =
    ap (λ (l : List ℕ). l ++ drop limit xs) e
    ∙ put_front (length (take limit xs)) to w (take limit xs) (drop limit xs) (omega arith)
    ∙ ap₂ (λ (k : ℕ) (l : List ℕ). put k to w l) (length-take-le limit xs h) (take-append-drop limit xs)

-- and with a second word behind the first, which left the prefix as long as it was
pub put_two_prefix : (limit to v w : ℕ) (xs : List ℕ) {ys : List ℕ} → limit ≤ length xs
    → ys ≡ put (length (take limit xs)) (to + 4) w (put (length (take limit xs)) to v (take limit xs)) → ys ++ drop limit xs ≡ put limit (to + 4) w (put limit to v xs)
put_two_prefix limit to v w xs h e =
    let n : ℕ = length (take limit xs) in
    let same : length (put n to v (take limit xs)) ≡ n = length_put n to v (take limit xs) (omega arith) in
    ap (λ (l : List ℕ). l ++ drop limit xs) e
    ∙ put_front n (to + 4) w (put n to v (take limit xs)) (drop limit xs) (omega (arith, same))
    ∙ ap (put n (to + 4) w) (put_front n to v (take limit xs) (drop limit xs) (omega arith))
    ∙ ap₂ (λ (k : ℕ) (l : List ℕ). put k (to + 4) w (put k to v l)) (length-take-le limit xs h) (take-append-drop limit xs)
