-- Table 3-7 read both ways, the row of a byte and the byte of a row; and one step of the walk.
use Prim.Native.Nat.{ℕ, zero, suc, ◌≤◌, ◌<◌}
use native.Mathlib.Omega.{arith}
use mathlib.Core.Path.{◌≡◌, refl, sym, ap, subst, ◌∙◌}
use mathlib.Core.Bool.{Bool, true, false, ◌&&◌}
use mathlib.Core.List.{List, [], ◌∷◌}
use mathlib.Core.Option.{Option, none, some}
use lib.ListN.{get_elem?}
use lib.Dec.{leb}
use borrow.Author.Tests.{le-leb, lt-leb}
use Rattle.std.specs.Prelude.{None}
use Rattle.std.specs.Prelude as code
use Rattle.rules.proofs.Clash.{clash}
use Rattle.rules.proofs.Types.{within_true}
use Rattle.rules.specs.Good.{All}
use Rattle.rules.specs.Utf8.{Range, inside, table, row_of, follow, well_formed_from, well_formed}
use Rattle.utf8.specs.declared.Due.{Due}
use Rattle.utf8.specs.Due.{Tells}

abbrev Row : Type 0
Row = Range × List Range

pub inside_true : (r : Range) (b : ℕ) → r.least ≤ b → b ≤ r.most → inside r b ≡ true
inside_true r b l h = rw (le-leb r.least b l, le-leb b r.most h)

inside_above : (r : Range) (b : ℕ) → r.most < b → inside r b ≡ false
inside_above r b h = rw (lt-leb b r.most h) (go (leb r.least b))
  where
    go : (t : Bool) → (t && false) ≡ false
    go true = refl
    go false = refl

pub inside_facts : (r : Range) (b : ℕ) → inside r b ≡ true → (r.least ≤ b) × (b ≤ r.most)
inside_facts r b e = within_true r.least r.most b e

-- rows of first bytes from n on, each above the one before
abbrev Ascending : ℕ → List Row → Type 0
Ascending n [] = Unit {0}
Ascending n (r ∷ rs) = (n ≤ r.0.least) × (r.0.least ≤ r.0.most) × Ascending (suc r.0.most) rs

ascending : Ascending 0 table
ascending = (omega arith, omega arith, (omega arith, omega arith, (omega arith, omega arith, (omega arith, omega arith, (omega arith, omega arith, (omega arith, omega arith, (omega arith, omega arith, (omega arith, omega arith, (omega arith, omega arith, tt)))))))))

later : (n : ℕ) (rs : List Row) → Ascending n rs → (i : ℕ) (r : Row) → get_elem? rs i ≡ some r → n ≤ r.0.least
later n [] a i r e = clash (cc)
later n (s ∷ rs) a zero r e = let same : s ≡ r = cc in subst (λ (t : Row). n ≤ t.0.least) same a.0
later n (s ∷ rs) a (suc i) r e = omega (arith, later (suc s.0.most) rs a.2 i r e, a.0, a.1)

abbrev chosen : Bool → Row → List Row → ℕ → Option (List Range)
chosen t r rs b = elim t as (λ _. Option (List Range)) [ true ↦ some r.1 | false ↦ row_of rs b ]

row_in : (n : ℕ) (rs : List Row) → Ascending n rs → (i : ℕ) (r : Row) → get_elem? rs i ≡ some r → (b : ℕ) → r.0.least ≤ b → b ≤ r.0.most → row_of rs b ≡ some r.1
unfolding row_of
row_in n [] a i r e b l h = clash (cc)
row_in n (s ∷ rs) a zero r e b l h = let same : s ≡ r = cc in rw same (ap (λ (t : Bool). chosen t r rs b) (inside_true r.0 b l h))
row_in n (s ∷ rs) a (suc i) r e b l h =
    ap (λ (t : Bool). chosen t s rs b) (inside_above s.0 b (omega (arith, later (suc s.0.most) rs a.2 i r e))) ∙ row_in (suc s.0.most) rs a.2 i r e b l h

-- a byte in the range of row i
pub row : (i : ℕ) {r : Row} → get_elem? table i ≡ some r → (b : ℕ) → r.0.least ≤ b → b ≤ r.0.most → follow b ≡ some r.1
row i {r} e b l h = row_in 0 table ascending i r e b l h

-- the other way: what holds in each row, and where there is none, holds of what follows a byte
by_rows : (P : Option (List Range) → Type 0) (b : ℕ) (rs : List Row) → All (λ r. r.0.least ≤ b → b ≤ r.0.most → P (some r.1)) rs → P none → P (row_of rs b)
unfolding row_of
by_rows P b [] f g = g
by_rows P b (r ∷ rs) f g = go (inside r.0 b) refl (by_rows P b rs f.1 g)
  where
    go : (t : Bool) → inside r.0 b ≡ t → P (row_of rs b) → P (chosen t r rs b)
    go true e h = f.0 (inside_facts r.0 b e).0 (inside_facts r.0 b e).1
    go false e h = h

pub by_row : (P : Option (List Range) → Type 0) (b : ℕ) → All (λ r. r.0.least ≤ b → b ≤ r.0.most → P (some r.1)) table → P none → P (follow b)
by_row P b f g = by_rows P b table f g

-- bytes that begin no character
pub no_row_low : (b : ℕ) → 0x80 ≤ b → b < 0xC2 → follow b ≡ none
no_row_low b low high = by_row (λ (o : Option (List Range)). o ≡ none) b (λ l h. absurd (omega arith), (λ l h. absurd (omega arith), (λ l h. absurd (omega arith), (λ l h. absurd (omega arith), (λ l h. absurd (omega arith), (λ l h. absurd (omega arith), (λ l h. absurd (omega arith), (λ l h. absurd (omega arith), (λ l h. absurd (omega arith), tt))))))))) refl

pub no_row_high : (b : ℕ) → 0xF5 ≤ b → follow b ≡ none
no_row_high b high = by_row (λ (o : Option (List Range)). o ≡ none) b (λ l h. absurd (omega arith), (λ l h. absurd (omega arith), (λ l h. absurd (omega arith), (λ l h. absurd (omega arith), (λ l h. absurd (omega arith), (λ l h. absurd (omega arith), (λ l h. absurd (omega arith), (λ l h. absurd (omega arith), (λ l h. absurd (omega arith), tt))))))))) refl

-- what the code holds of a byte in the range of row i, and of one that begins no character
pub in_row : (i : ℕ) {r : Row} → get_elem? table i ≡ some r → {b : ℕ} → r.0.least ≤ b → b ≤ r.0.most → {d : code.Option Due} → Tells (some r.1) d → Tells (follow b) d
in_row i e {b} l h t = record { is = t.is ∙ sym (row i e b l h) }

pub in_no_row : (b : ℕ) → follow b ≡ none → Tells (follow b) None
in_no_row b e = record { is = sym e }

-- one step of the walk
pub start : (b : ℕ) (bs : List ℕ) (rs : List Range) → follow b ≡ some rs → well_formed (b ∷ bs) ≡ well_formed_from rs bs
unfolding well_formed_from
start b bs rs e = ap {B = Bool} (λ (o : Option (List Range)). elim o as (λ _. Bool) [ none ↦ false | some rs ↦ well_formed_from rs bs ]) e

pub next : (r : Range) (rs : List Range) (b : ℕ) (bs : List ℕ) → r.least ≤ b → b ≤ r.most → well_formed_from (r ∷ rs) (b ∷ bs) ≡ well_formed_from rs bs
unfolding well_formed_from
next r rs b bs l h = ap {B = Bool} (λ (t : Bool). elim t as (λ _. Bool) [ true ↦ well_formed_from rs bs | false ↦ false ]) (inside_true r b l h)

-- where a byte is due, one stands there, in its range
pub due : (Q : List ℕ → Type 0) (r : Range) (rs : List Range)
    → ((b : ℕ) (bs : List ℕ) → r.least ≤ b → b ≤ r.most → well_formed_from rs bs ≡ true → Q (b ∷ bs))
    → (bs : List ℕ) → well_formed_from (r ∷ rs) bs ≡ true → Q bs
unfolding well_formed_from
due Q r rs f [] w = clash (cc)
due Q r rs f (b ∷ bs) w = go (inside r b) refl w
  where
    go : (t : Bool) → inside r b ≡ t → (elim t as (λ _. Bool) [ true ↦ well_formed_from rs bs | false ↦ false ]) ≡ true → Q (b ∷ bs)
    go true e w = f b bs (inside_facts r b e).0 (inside_facts r b e).1 w
    go false e w = clash (cc)
