-- What is found row by row is the row of the qualified text.
use mathlib.Core.Path.{◌≡◌, sym, ap₂, ◌∙◌}
use mathlib.Core.List.{List}
use Prim.Native.Nat.{ℕ}
use native.Mathlib.Omega.{arith}
use Rattle.image_texts.specs.Rows.{row_text, qualified_text, first_from, find_row}
use Rattle.image_texts.proofs.Find.{first_hit, first_miss, first_none}
use Rattle.image_qualified.proofs.find_qualified.Goals as goal
use Rattle.image_qualified.proofs.find_qualified.Invariants.{has}

-- what is found with the two halves is the row of the qualified text
whole : (image : List ℕ) (from names m n : ℕ) {x y : List ℕ} → x ≡ row_text image from m → y ≡ row_text image from n
    → first_from (has image from x y) names 0 ≡ find_row image from names (qualified_text image from m n)
unfolding find_row qualified_text
whole image from names m n p q = ap₂ (λ (x y : List ℕ). first_from (has image from x y) names 0) p q

pub returns-then-is_joined_row : goal.returns-then-is_joined_row
returns-then-is_joined_row c =
    sym (first_hit _ c.args.names c.loop-i.i (omega arith) (sym c.is_joined_row.ensures ∙ c.if-is_joined_row.true))
    ∙ c.loop-i.invariant
    ∙ whole _ _ _ _ _ c.text_of-first.ensures c.text_of-second.ensures

pub loop-i-preserved : goal.loop-i-preserved
loop-i-preserved c = first_miss _ c.args.names c.loop-i.i (omega arith) (sym c.is_joined_row.ensures ∙ c.if-is_joined_row.false) ∙ c.loop-i.invariant

pub returns : goal.returns
returns c = sym (first_none _ c.args.names c.loop-i.i (omega arith)) ∙ c.loop-i.invariant ∙ whole _ _ _ _ _ c.text_of-first.ensures c.text_of-second.ensures
