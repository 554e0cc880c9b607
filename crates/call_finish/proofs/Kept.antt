-- Words kept in a buffer and then copied are words written. Assumes nothing.
use Prim.Native.Nat.{ℕ, ◌+◌, ◌≤◌}
use mathlib.Core.Path.{◌≡◌, sym, ap, ◌∙◌}
use mathlib.Core.List.{List, ◌++◌}
use native.Mathlib.Omega.{arith}
use native.Mathlib.Nat.{le_refl}
use lib.ListN.{length, take, drop}
use lib.Seq.{take_at, take-length, length-take-le}
use Rattle.rules.specs.Words.{bytes_of}
use Rattle.words.proofs.Words.{length_bytes_of}
use Rattle.words.proofs.Puts.{puts_fits}
use Rattle.answers.specs.Writes.{Writes}
use Rattle.answers.proofs.Writes.{writes_length}

-- words that fit stand at the start
stands : {ws : List ℕ} {n : ℕ} {old new : List ℕ} → Writes ws 0 n old new → n ≤ length new → new ≡ bytes_of ws ++ drop (0 + length (bytes_of ws)) old
stands {ws} {n} {old} {new} w l = w.bytes ∙ puts_fits (length old) 0 ws old (omega (arith, w.place, writes_length w)) (le_refl _)

-- a prefix copied whole
pub prefix : (n : ℕ) (first output : List ℕ) → n ≤ length first → take (length (take n first)) (take n first) ++ drop (length (take n first)) output ≡ take n first ++ drop n output
prefix n first output l =
    let size : length (take n first) ≡ n = length-take-le n first l in
    rw take-length (ap (λ (k : ℕ). take n first ++ drop k output) size)

-- n bytes of the first buffer over the output's start
pub kept : {ws : List ℕ} {n : ℕ} {blank first : List ℕ} → Writes ws 0 n blank first → n ≤ length first → {output new : List ℕ} → n ≤ length output
    → new ≡ take n first ++ drop n output → Writes ws 0 n output new
kept {ws} {n} {blank} {first} w l {output} m copied =
    let size : 0 + length (bytes_of ws) ≡ n = omega (arith, length_bytes_of ws, w.place) in
    let front : take n first ≡ bytes_of ws = ap (take n) (stands w l) ∙ take_at (bytes_of ws) (drop (0 + length (bytes_of ws)) blank) n (omega arith) in
    record {
      place = w.place;
      bytes = copied ∙ rw (front, ← size) (sym (puts_fits (length output) 0 ws output (omega (arith, w.place)) (le_refl _)));
    }
