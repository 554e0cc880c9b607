-- The walk over a text's bytes: what is due after each of them decides the rest.
use Prim.Native.Nat.{ℕ, zero, suc, ◌+◌, ◌-◌, ◌<◌, ◌≤◌}
use native.Mathlib.Numerals.{add-one}
use native.Mathlib.Omega.{arith}
use mathlib.Core.Path.{◌≡◌, refl, sym, ap, ◌∙◌}
use mathlib.Core.Bool.{Bool, true, false}
use mathlib.Core.List.{List, [], ◌∷◌}
use mathlib.Core.Option.{Option, none, some}
use lib.ListN.{length, get_or, drop, drop_of_length-le}
use lib.Seq.{drop-cons}
use lib.Dec.{eqb}
use borrow.Author.Tests.{ne_eqb}
use Rattle.std.specs.Prelude.{Some, None}
use Rattle.std.specs.Prelude as code
use Rattle.rules.specs.Utf8.{Range, ◌to◌, inside, follow, well_formed_from}
use Rattle.utf8.specs.declared.Due.{Due}
use Rattle.utf8.proofs.Table.{inside_true, inside_facts}
use Rattle.utf8.specs.Due.{ranges, due_of, told, Tells, after}

-- the rest, where what is due before it is known
abbrev rest_from : Option (List Range) → List ℕ → Bool
rest_from none bs = false
rest_from (some due) bs = well_formed_from due bs

-- one byte more
by_after : (rs : List Range) (b : ℕ) (bs : List ℕ) → well_formed_from rs (b ∷ bs) ≡ rest_from (after rs b) bs
unfolding well_formed_from after
by_after [] b bs = go (follow b)
  where
    go : (o : Option (List Range)) → ◌≡◌ {A = Bool} (elim o as (λ _. Bool) [ none ↦ false | some due ↦ well_formed_from due bs ]) (rest_from o bs)
    go none = refl
    go (some due) = refl
by_after (r ∷ rs) b bs = go (inside r b)
  where
    go : (t : Bool) → ◌≡◌ {A = Bool} (elim t as (λ _. Bool) [ true ↦ well_formed_from rs bs | false ↦ false ]) (rest_from (elim t as (λ _. Option (List Range)) [ true ↦ some rs | false ↦ none ]) bs)
    go true = refl
    go false = refl

-- a byte that is as it must be, one that is not, and the text's end
module _ (text : List ℕ) (d : Due) (i : ℕ) where
  at_byte : i < length text → {e : code.Option Due} → Tells (after (due_of d) (get_or text i 0)) e → well_formed_from (due_of d) (drop i text) ≡ rest_from (told e) (drop (i + 1) text)
  at_byte l s =
      ap (well_formed_from (due_of d)) (drop-cons text i 0 l) ∙ by_after (due_of d) (get_or text i 0) (drop (suc i) text) ∙ rw (s.is, add-one) refl

  pub goes_on : i < length text → {e : Due} → Tells (after (due_of d) (get_or text i 0)) (Some e) → well_formed_from (due_of d) (drop i text) ≡ well_formed_from (due_of e) (drop (i + 1) text)
  goes_on l s = at_byte l s

  pub stops : i < length text → Tells (after (due_of d) (get_or text i 0)) None → well_formed_from (due_of d) (drop i text) ≡ false
  stops l s = at_byte l s

  pub ended : length text ≤ i → well_formed_from (due_of d) (drop i text) ≡ eqb d.left 0
  unfolding well_formed_from
  ended l = ap (well_formed_from (due_of d)) (drop_of_length-le text {i = i} l) ∙ go d.left d.least d.most
    where
      go : (left least most : ℕ) → well_formed_from (ranges left least most) [] ≡ eqb left 0
      go zero least most = refl
      go (suc left) least most = sym (ne_eqb (suc left) 0 (λ e. omega arith))

-- what is due behind a byte where none was due; behind one where some were, in the next one's range and outside it
pub due_first : (left least most b : ℕ) → left ≡ 0 → after (ranges left least most) b ≡ follow b
unfolding after
due_first zero least most b e = refl
due_first (suc left) least most b e = absurd (omega arith)

pub due_inside : (left least most b : ℕ) → 0 < left → least ≤ b → b ≤ most → after (ranges left least most) b ≡ some (ranges (left - 1) 0x80 0xBF)
unfolding after
due_inside zero least most b l h k = absurd (omega arith)
due_inside (suc left) least most b l h k =
    let same : suc left - 1 ≡ left = omega arith in
    rw same (ap (λ (t : Bool). elim t as (λ _. Option (List Range)) [ true ↦ some (ranges left 0x80 0xBF) | false ↦ none ]) (inside_true (least to most) b h k))

pub due_outside : (left least most b : ℕ) → 0 < left → (least ≤ b → b ≤ most → ⊥) → after (ranges left least most) b ≡ none
unfolding after
due_outside zero least most b l n = absurd (omega arith)
due_outside (suc left) least most b l n = go (inside (least to most) b) refl
  where
    go : (t : Bool) → inside (least to most) b ≡ t → (elim t as (λ _. Option (List Range)) [ true ↦ some (ranges left 0x80 0xBF) | false ↦ none ]) ≡ none
    go true e = let h = inside_facts (least to most) b e in absurd (n h.0 h.1)
    go false e = refl
