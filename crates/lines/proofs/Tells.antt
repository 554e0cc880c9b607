-- Laws: bytes laid into a lent text, one run behind the other.
use Prim.Native.Nat.{ℕ, suc, ◌+◌, ◌-◌, ◌≤◌, min}
use mathlib.Core.Path.{◌≡◌, refl, sym, ap, subst, ◌∙◌}
use mathlib.Core.List.{List, [], ◌∷◌, ◌++◌, append_assoc}
use native.Mathlib.Omega.{arith}
use native.Mathlib.Decide.{dec_le}
use lib.ListN.{length, set, take, drop, length-append, length-set, take-append-drop}
use lib.Seq.{set_out, sets, sets-eq, take_all, take_at, length-take-le, drop-drop}
use borrow.Rule.Slice.PartMut.{put_mid}
use Rattle.lines.specs.Text.{overlay, Tells}

-- the text keeps its length
pub length_overlay : (at : ℕ) (bs xs : List ℕ) → length (overlay at bs xs) ≡ length xs
unfolding overlay
length_overlay at [] xs = refl
length_overlay at (b ∷ bs) xs = length_overlay (suc at) bs (set xs at b) ∙ length-set xs at b

-- nothing is written past its end
pub overlay_past : (at : ℕ) (bs xs : List ℕ) → length xs ≤ at → overlay at bs xs ≡ xs
unfolding overlay
overlay_past at [] xs h = refl
overlay_past at (b ∷ bs) xs h = ap (overlay (suc at) bs) (set_out xs at b h) ∙ overlay_past (suc at) bs xs (omega arith)

-- one run behind the other
pub overlay_append : (at : ℕ) (ys zs xs : List ℕ) → overlay at (ys ++ zs) xs ≡ overlay (at + length ys) zs (overlay at ys xs)
unfolding overlay
overlay_append at [] zs xs = let e : at ≡ at + 0 = omega arith in ap (λ (n : ℕ). overlay n zs xs) e
overlay_append at (y ∷ ys) zs xs =
    let e : suc at + length ys ≡ at + suc (length ys) = omega arith in
    overlay_append (suc at) ys zs (set xs at y) ∙ ap (λ (n : ℕ). overlay n zs (overlay (suc at) ys (set xs at y))) e

as_stores : (at : ℕ) (bs xs : List ℕ) → overlay at bs xs ≡ sets xs at bs
unfolding overlay
as_stores at [] xs = refl
as_stores at (b ∷ bs) xs = as_stores (suc at) bs (set xs at b)

-- as many as there is room for stand for all
overlay_cut : (at n : ℕ) (bs xs : List ℕ) → at ≤ length xs → n ≡ min (length bs) (length xs - at) → overlay at (take n bs) xs ≡ overlay at bs xs
overlay_cut at n bs xs h e =
    elim (dec_le (length bs) n) [
      | yes l ↦ ap (λ (l : List ℕ). overlay at l xs) (take_all n bs l)
      | no l ↦
          let full : length (overlay at (take n bs) xs) ≤ at + length (take n bs) = omega (arith, length_overlay at (take n bs) xs, length-take-le n bs (omega arith)) in
          sym (overlay_past (at + length (take n bs)) (drop n bs) (overlay at (take n bs) xs) full)
          ∙ sym (overlay_append at (take n bs) (drop n bs) xs)
          ∙ ap (λ (l : List ℕ). overlay at l xs) (take-append-drop n bs)
    ]

module _ {more : List ℕ} {at next : ℕ} {old new : List ℕ} (t : Tells more at next old new) where
  -- the text keeps its length, and a place lies in it
  pub tells_length : length new ≡ length old
  tells_length = ap length t.bytes ∙ length_overlay at more old

  pub tells_inside : next ≤ length new
  tells_inside = omega (arith, tells_length, t.place)

  -- where there is room nothing is cut
  pub tells_whole : at + length more ≤ length old → take next new ≡ take at old ++ more
  tells_whole h =
      let n : next ≡ at + length more = omega (arith, t.place) in
      let l : length (take at old ++ more) ≡ next = omega (arith, length-append (take at old) more, length-take-le at old (omega arith)) in
      ap (take next) (t.bytes ∙ as_stores at more old ∙ sets-eq more old at h) ∙ take_at (take at old ++ more) (drop (at + length more) old) next l

pub tells_none : {at : ℕ} {old : List ℕ} → at ≤ length old → Tells [] at at old old
unfolding overlay
tells_none h = record { place = omega arith; bytes = refl }

-- others behind them
pub tells_then : {ys zs : List ℕ} {at m next : ℕ} {old mid new : List ℕ} → at ≤ length old → Tells ys at m old mid → Tells zs m next mid new → Tells (ys ++ zs) at next old new
tells_then {ys} {zs} {at} {m} {next} {old} {mid} {new} h s t = record {
  place = omega (arith, s.place, t.place, tells_length s, length-append ys zs);
  bytes = t.bytes ∙ ap (overlay m zs) s.bytes ∙ seam ∙ sym (overlay_append at ys zs old);
} where
  -- a place that is cut lies at the end, where nothing is written
  seam : overlay m zs (overlay at ys old) ≡ overlay (at + length ys) zs (overlay at ys old)
  seam = elim (dec_le (at + length ys) (length old)) [
    | yes l ↦ let e : m ≡ at + length ys = omega (arith, s.place) in ap (λ (k : ℕ). overlay k zs (overlay at ys old)) e
    | no l ↦
        overlay_past m zs (overlay at ys old) (omega (arith, s.place, length_overlay at ys old))
        ∙ sym (overlay_past (at + length ys) zs (overlay at ys old) (omega (arith, length_overlay at ys old)))
  ]

-- equal bytes
pub tells_same : {ys zs : List ℕ} {at next : ℕ} {old new : List ℕ} → ys ≡ zs → Tells ys at next old new → Tells zs at next old new
tells_same {at = at} {next} {old} {new} e t = subst (λ (l : List ℕ). Tells l at next old new) e t

-- as many as there is room for, laid one by one
pub tells_cut : {at n : ℕ} {bs old new : List ℕ} → at ≤ length old → n ≡ min (length bs) (length old - at) → new ≡ overlay at (take n bs) old → Tells bs at (at + n) old new
tells_cut {at} {n} {bs} {old} h e b = record { place = omega (arith, e); bytes = b ∙ overlay_cut at n bs old h e }

-- bytes copied into a part of the text
pub laid : (at n : ℕ) (xs : List ℕ) {ys zs : List ℕ} → at + n ≤ length xs → ys ≡ zs → length zs ≡ n → put_mid at (at + n - at) xs ys ≡ overlay at zs xs
laid at n xs {ys} {zs} h e l =
    let size : at + n - at ≡ length zs = omega arith in
    rw (e, size, drop-drop (length zs) at xs) (sym (as_stores at zs xs ∙ sets-eq zs xs at (omega arith) ∙ append_assoc (take at xs) zs (drop (at + length zs) xs)))
