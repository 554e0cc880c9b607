-- Laws: writing words into a list of bytes, below a limit.
use mathlib.Core.Path.{◌≡◌, refl, ap, ◌∙◌, sym}
use Prim.Native.Nat.{ℕ, ◌+◌, ◌*◌, ◌<◌, ◌≤◌}
use native.Mathlib.Omega.{arith}
use native.Mathlib.Numerals.{add-one}
use mathlib.Core.List.{List, [], ◌∷◌, ◌++◌, append_assoc}
use lib.ListN.{length, get_or, take, drop, length-append, length-take, length-drop}
use lib.Seq.{length-take-le, take-suc, take_at, drop-append-add, drop-drop, paste-zero}
use native.Mathlib.Decide.{dec_le}
use native.Mathlib.Nat.{lt_of_not-le}
use borrow.Author.Tests.{le-leb, lt-leb}
use borrow.Rule.Slice.PartMut.{put_mid}
use Rattle.std.proofs.lemmas.Slice.{put_mid-paste}
use Rattle.std.proofs.lemmas.List.Edits.{paste_all}
use Rattle.rules.specs.Words.{le, bytes_of, over_start}
use Rattle.words.proofs.Words.{length_bytes_of}
use Rattle.words.specs.Puts.{splice, put, puts}

-- a part of a slice that was written is a splice
pub put_mid_splice : (at k : ℕ) (ys zs xs : List ℕ) → zs ≡ ys → k ≡ length ys → put_mid at k xs zs ≡ splice at ys xs
put_mid_splice at k ys zs xs e l = put_mid-paste at k xs zs ys (length ys) e (sym l) refl ∙ paste_all xs at ys (length ys) refl ∙ sym (append_assoc (take at xs) ys (drop (at + length ys) xs))

module _ (limit : ℕ) where
  -- a word that fits is a splice; one that does not changes nothing
  pub put_fits : (at w : ℕ) (xs : List ℕ) → at + 4 ≤ limit → put limit at w xs ≡ splice at (le w) xs
  unfolding put
  put_fits at w xs h = simp (le-leb _ _ h)

  pub put_past : (at w : ℕ) (xs : List ℕ) → limit < at + 4 → put limit at w xs ≡ xs
  unfolding put
  put_past at w xs h = simp (lt-leb _ _ h)

  -- two runs one after the other are one run
  pub puts_append : (at : ℕ) (vs ws xs : List ℕ) → puts limit at (vs ++ ws) xs ≡ puts limit (at + 4 * length vs) ws (puts limit at vs xs)
  unfolding puts
  puts_append at [] ws xs = ap (λ (k : ℕ). puts limit k ws xs) (omega arith)
  puts_append at (v ∷ vs) ws xs = puts_append (at + 4) vs ws (put limit at v xs)
      ∙ ap (λ (k : ℕ). puts limit k ws (puts limit (at + 4) vs (put limit at v xs))) (omega arith)

  -- one word more of a run: a turn of the loop that writes it
  pub puts_step : (at : ℕ) (run : List ℕ) (i : ℕ) (xs : List ℕ) → i < length run
      → put limit (at + 4 * i) (get_or run i 0) (puts limit at (take i run) xs) ≡ puts limit at (take (i + 1) run) xs
  unfolding puts
  puts_step at run i xs h =
      let len : length (take i run) ≡ i = length-take-le i run (omega arith) in
      let e : take (i + 1) run ≡ take i run ++ (get_or run i 0 ∷ []) = rw add-one (take-suc run i 0 h) in
      ap (λ (k : ℕ). put limit (at + 4 * k) (get_or run i 0) (puts limit at (take i run) xs)) (sym len)
      ∙ sym (puts_append at (take i run) (get_or run i 0 ∷ []) xs)
      ∙ ap (λ (l : List ℕ). puts limit at l xs) (sym e)

-- ---- splices
-- a splice that stays inside keeps the length
pub length_splice : (at : ℕ) (ys xs : List ℕ) → at + length ys ≤ length xs → length (splice at ys xs) ≡ length xs
length_splice at ys xs h = simp (length-append, length-take, length-drop) (omega arith)

-- two adjoining splices are one splice of the two
pub splice_splice : (at : ℕ) (ys zs xs : List ℕ) → at + length ys + length zs ≤ length xs
    → splice (at + length ys) zs (splice at ys xs) ≡ splice at (ys ++ zs) xs
splice_splice at ys zs xs h =
    let p : List ℕ = take at xs ++ ys in
    let r : List ℕ = drop (at + length ys) xs in
    let len : length (take at xs ++ ys) ≡ at + length ys = simp (length-append, length-take) (omega arith) in
    let all : at + length ys + length zs ≡ at + length (ys ++ zs) = simp length-append (omega arith) in
    let t : take (at + length ys) (take at xs ++ ys ++ drop (at + length ys) xs) ≡ take at xs ++ ys = take_at p r (at + length ys) len in
    let d : drop (at + length ys + length zs) (take at xs ++ ys ++ drop (at + length ys) xs) ≡ drop (at + length (ys ++ zs)) xs =
    ap (λ (k : ℕ). drop (k + length zs) (p ++ r)) (sym len)
    ∙ drop-append-add p r (length zs)
    ∙ drop-drop (length zs) (at + length ys) xs
    ∙ ap (λ (k : ℕ). drop k xs) all in
    rw (t, d) (ap (λ (l : List ℕ). l ++ drop (at + length (ys ++ zs)) xs) (append_assoc (take at xs) ys zs))

module _ (limit : ℕ) where
  pub length_put : (at w : ℕ) (xs : List ℕ) → limit ≤ length xs → length (put limit at w xs) ≡ length xs
  length_put at w xs h =
      elim (dec_le (at + 4) limit) [
        | yes k ↦ ap length (put_fits limit at w xs k) ∙ length_splice at (le w) xs (omega arith)
        | no k ↦ ap length (put_past limit at w xs (lt_of_not-le k))
      ]

  pub length_puts : (at : ℕ) (ws xs : List ℕ) → limit ≤ length xs → length (puts limit at ws xs) ≡ length xs
  unfolding puts
  length_puts at [] xs h = refl
  length_puts at (w ∷ ws) xs h = length_puts (at + 4) ws (put limit at w xs) (omega (arith, length_put at w xs h)) ∙ length_put at w xs h

  -- words that all fit are one splice of their bytes
  pub puts_fits : (at : ℕ) (ws xs : List ℕ) → at + 4 * length ws ≤ limit → limit ≤ length xs → puts limit at ws xs ≡ splice at (bytes_of ws) xs
  unfolding puts bytes_of
  puts_fits at [] xs h k = paste-zero xs at []
  puts_fits at (w ∷ ws) xs h k =
      let one : put limit at w xs ≡ splice at (le w) xs = put_fits limit at w xs (omega arith) in
      let len : length (splice at (le w) xs) ≡ length xs = length_splice at (le w) xs (omega arith) in
      rw one
      (puts_fits (at + 4) ws (splice at (le w) xs) (omega arith) (omega arith)
      ∙ splice_splice at (le w) (bytes_of ws) xs (omega (arith, length_bytes_of ws)))

over : (ys xs : List ℕ) → length ys ≤ length xs → ys ++ drop (length ys) xs ≡ over_start ys xs
unfolding over_start
over [] xs h = refl
over (y ∷ ys) [] h = absurd (omega arith)
over (y ∷ ys) (x ∷ xs) h = ap (λ (l : List ℕ). y ∷ l) (over ys xs (omega arith))

-- bytes over the start, where there are as many, are a splice at 0
pub over_splice : (ys xs : List ℕ) → length ys ≤ length xs → splice 0 ys xs ≡ over_start ys xs
over_splice ys xs h = let z : 0 + length ys ≡ length ys = omega arith in rw z (over ys xs h)

-- words written from 0 that all fit: their bytes over the start of what was there
pub puts_start : (limit : ℕ) (ws xs : List ℕ) → 4 * length ws ≤ limit → limit ≤ length xs → puts limit 0 ws xs ≡ over_start (bytes_of ws) xs
puts_start limit ws xs h k = puts_fits limit 0 ws xs (omega arith) k ∙ over_splice (bytes_of ws) xs (omega (arith, length_bytes_of ws))
