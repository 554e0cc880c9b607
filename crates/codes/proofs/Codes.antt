-- The kinds of the codes, by number and by range. Assumes nothing.
use Prim.Native.Nat.{ℕ, ◌≤◌, ◌<◌}
use native.Mathlib.Omega.{arith}
use mathlib.Core.Path.{◌≡◌, refl, ap, ◌∙◌}
use mathlib.Core.Bool.{Bool, true, false, ◌&&◌}
use lib.Dec.{leb}
use borrow.Author.Tests.{lt-ltb, le-ltb, ne_eqb, le-leb, lt-leb, leb-true}
use Rattle.rules.specs.Words.{within}
use Rattle.rules.specs.Kinds.{type_kind}
use Rattle.rules.specs.declared.kinds.TypeKind.{TypeKind}

pub in_within : (low high c : ℕ) → low ≤ c → c ≤ high → within low high c ≡ true
in_within low high c g h = rw (le-leb low c g, le-leb c high h)

pub off_within : (low high c : ℕ) → (low ≤ c → high < c) → within low high c ≡ false
off_within low high c h = go (leb low c) refl
  where
    go : (b : Bool) → leb low c ≡ b → (b && leb c high) ≡ false
    go true e = lt-leb c high (h (leb-true low c e))
    go false e = refl

-- the codes of one number
pub sub_at : {c : ℕ} → c ≡ 16 → type_kind c ≡ TypeKind.Sub
sub_at e = ap type_kind e ∙ (unfold type_kind in refl)

pub named_at : {c : ℕ} → c ≡ 48 → type_kind c ≡ TypeKind.Named
named_at e = ap type_kind e ∙ (unfold type_kind in refl)

-- the codes of a range
pub primitive_in : (c : ℕ) → c < 14 → type_kind c ≡ TypeKind.Plain
unfolding type_kind
primitive_in c h = rw (lt-ltb c 14 h)

pub semantic_in : (c : ℕ) → 32 ≤ c → c < 38 → type_kind c ≡ TypeKind.Plain
unfolding type_kind
semantic_in c g h = rw (le-ltb c 14 (omega arith), ne_eqb c 16 (λ e. omega arith), in_within 32 37 c g (omega arith))
