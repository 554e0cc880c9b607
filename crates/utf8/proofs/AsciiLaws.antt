-- ASCII at a text's start may be passed over.
use Prim.Native.Nat.{ℕ, zero, suc, ◌+◌, ◌-◌, ◌≤◌, ◌<◌}
use native.Mathlib.Omega.{arith}
use mathlib.Core.Path.{◌≡◌, refl, sym, ap, ◌∙◌}
use mathlib.Core.Bool.{Bool, true, false, ◌&&◌}
use mathlib.Core.List.{List, []}
use lib.ListN.{length, get_or, take, drop, length-drop}
use lib.Seq.{drop-cons, drop-drop, take_all}
use lib.Dec.{ltb}
use borrow.Author.Tests.{ltb-true}
use Rattle.rules.proofs.Clash.{clash}
use Rattle.rules.specs.Utf8.{well_formed}
use Rattle.utf8.specs.Ascii.{ascii_to, Begins}
use Rattle.utf8.proofs.Table.{row, start}

-- two tests, both true
both : (a b : Bool) → (a && b) ≡ true → (a ≡ true) × (b ≡ true)
both true b e = (refl, e)
both false b e = clash (cc)

-- one byte of ASCII decides nothing, nor do some at the start
ascii_byte : (text : List ℕ) (i : ℕ) → i < length text → ltb (get_or text i 0) 0x80 ≡ true → well_formed (drop i text) ≡ well_formed (drop (suc i) text)
ascii_byte text i l e =
    let h = ltb-true (get_or text i 0) 0x80 e in
    ap (λ (bs : List ℕ). well_formed bs) (drop-cons text i 0 l) ∙ start (get_or text i 0) (drop (suc i) text) [] (row 0 refl (get_or text i 0) (omega arith) (omega arith))

ascii_bytes : (n : ℕ) (text : List ℕ) → n ≤ length text → ascii_to n text ≡ true → well_formed text ≡ well_formed (drop n text)
ascii_bytes zero text l e = refl
ascii_bytes (suc n) text l e = let h = both (ascii_to n text) (ltb (get_or text n 0) 0x80) e in ascii_bytes n text (omega arith) h.0 ∙ ascii_byte text n (omega arith) h.1

-- where the walk may begin: at the start, and eight bytes of ASCII further
pub from_start : (text : List ℕ) → Begins text 0
from_start text = record { inside = omega arith; decides = refl }

pub eight_further : (text : List ℕ) (i : ℕ) → Begins text i → i + 8 ≤ length text → {r : Bool} → r ≡ ascii_to 8 (take (length text - i) (drop i text)) → r ≡ true → Begins text (i + 8)
eight_further text i b l f y =
    let size = length-drop i text in
    let whole : take (length text - i) (drop i text) ≡ drop i text = take_all (length text - i) (drop i text) (omega arith) in
    let a : ascii_to 8 (drop i text) ≡ true = ap (ascii_to 8) (sym whole) ∙ sym f ∙ y in
    record { inside = l; decides = ap well_formed (sym (drop-drop 8 i text)) ∙ sym (ascii_bytes 8 (drop i text) (omega arith) a) ∙ b.decides }

-- from there on the walk decides
pub from_there : (text : List ℕ) (i : ℕ) → Begins text i → well_formed (take (length text - i) (drop i text)) ≡ well_formed text
from_there text i b = ap well_formed (take_all (length text - i) (drop i text) (omega (arith, length-drop i text, b.inside))) ∙ b.decides
