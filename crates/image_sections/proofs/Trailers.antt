-- What the tests of a trailer show, and a table's numbers.
use Prim.Native.Nat.{ℕ, ◌-◌, ◌*◌, ◌/◌, ◌%◌, ◌≤◌}
use mathlib.Core.Path.{◌≡◌, refl, sym, ◌∙◌}
use mathlib.Core.Bool.{Bool, true, false, ◌&&◌}
use mathlib.Core.List.{List}
use native.Mathlib.Omega.{arith}
use native.Mathlib.Nat.{div-add-mod, mul_assoc}
use lib.Dec.{leb, eqb}
use lib.ListN.{length, length-take, length-drop}
use borrow.Author.Tests.{leb-true, eqb-true}
use Rattle.rules.specs.Words.{within}
use Rattle.rules.specs.Image as rules
use Rattle.rules.specs.Image.{part, whole_rows, good_trailer}
use Rattle.words.proofs.Words.{length_words}
use Rattle.image_words.specs.Verdict.{section_words}
use Rattle.image_layout.specs.declared.Table.{Table}
use Rattle.image_layout.specs.Rows.{Fits}
use Rattle.image_sections.specs.Tables.{Whole, TellsTable}

both : (a b : Bool) → (a && b) ≡ true → (a ≡ true) × (b ≡ true)
both true b e = (refl, e)
both false b e = absurd (let z : ◌≡◌ {A = ℕ} 0 1 = cc in omega arith)

-- a length within the bounds
pub bounds : (n : ℕ) → within 24 65536 n ≡ true → (24 ≤ n) × (n ≤ 65536)
bounds n e = let x = both (leb 24 n) (leb n 65536) e in (leb-true 24 n x.0, leb-true n 65536 x.1)

whole : (a b w most : ℕ) → whole_rows a b w most ≡ true → Whole a b w most
unfolding whole_rows
whole a b w most e =
    let x = both (leb a b && eqb ((b - a) % w) 0) (leb ((b - a) / w) most) e in
    let y = both (leb a b) (eqb ((b - a) % w) 0) x.0 in
    record { order = leb-true a b y.0; exact = eqb-true ((b - a) % w) 0 y.1; few = leb-true ((b - a) / w) most x.1 }

-- the four sections of a good trailer
pub record Parts (size : ℕ) (t : rules.Trailer) : Type 0 where
  pub names : Whole t.names_start t.strings_start 16 1024
  pub strings : Whole t.strings_start t.pool_start 8 1024
  pub pool : Whole t.pool_start t.definitions_start 4 65536
  pub definitions : Whole t.definitions_start (size - 24) 8 256

pub parts : (size : ℕ) (t : rules.Trailer) → good_trailer size t ≡ true → Parts size t
unfolding good_trailer
parts size t e =
    let f : Bool = eqb t.format 1 && eqb t.size size in
    let wn : Bool = whole_rows t.names_start t.strings_start 16 1024 in
    let ws : Bool = whole_rows t.strings_start t.pool_start 8 1024 in
    let wp : Bool = whole_rows t.pool_start t.definitions_start 4 65536 in
    let wd : Bool = whole_rows t.definitions_start (size - 24) 8 256 in
    let d = both (f && wn && ws && wp) wd e in
    let p = both (f && wn && ws) wp d.0 in
    let s = both (f && wn) ws p.0 in
    let n = both f wn s.0 in
    record { names = whole _ _ _ _ n.1; strings = whole _ _ _ _ s.1; pool = whole _ _ _ _ p.1; definitions = whole _ _ _ _ d.1 }

-- fewer than more
pub fewer : {a b w m n : ℕ} → m ≤ n → Whole a b w m → Whole a b w n
fewer {a} {b} {w} {m} {n} l h = record { order = h.order; exact = h.exact; few = omega (arith, h.few) }

-- the rows are all the bytes
pub rows_bytes : (w : ℕ) {a b most : ℕ} → Whole a b (4 * w) most → 4 * (w * ((b - a) / (4 * w))) ≡ b - a
rows_bytes w {a} {b} h = let e = div-add-mod (b - a) (4 * w) in omega (arith, e, h.exact, mul_assoc 4 w ((b - a) / (4 * w)))

-- a part inside the image is as long as its places are apart
pub part_length : (image : List ℕ) (a b : ℕ) → b ≤ length image → length (part image a b) ≡ b - a
part_length image a b h = simp (length-take, length-drop) (omega arith)

-- so a table has whole rows
pub told_fits : {image : List ℕ} {a b w most : ℕ} {t : Table} → b ≤ length image → Whole a b (4 * w) most → TellsTable image a b w t → Fits t
unfolding section_words
told_fits {image} {a} {b} {w} l h told = record {
  whole = rw (told.words, told.width, told.rows) (length_words (w * ((b - a) / (4 * w))) (part image a b) (part_length image a b l ∙ sym (rows_bytes w h)));
}
