-- A type's range by the first words of its run. Assumes nothing.
use Prim.Native.Nat.{ℕ, zero, suc, ◌≤◌, ◌<◌}
use native.Mathlib.Omega.{arith}
use mathlib.Core.Path.{◌≡◌, refl, sym, ◌∙◌}
use mathlib.Core.Bool.{cond}
use lib.ListN.{length, get_or, get_or-eq_default}
use lib.Dec.{T, ltb, eqb, ltb→lt}
use borrow.Author.Tests.{ne_eqb}
use Rattle.rules.specs.Syntax.{ResolvedType, run}
use Rattle.rules.specs.Fits.{Range, Signed, Unsigned, Nothing, primitives, range_of}
use Rattle.rules.specs.Good.{Good}
use Rattle.type_words.specs.declared.HeldType.{HeldType}
use Rattle.type_words.specs.Holds.{Holds}
use Rattle.type_tests.proofs.Heads.{word, word_of, held_word, Off, one_off, two_off, plain_not_sub}

-- a primitive's row of the table, or a sub-byte's sign and width
unfoldable pub range_code : ℕ → ℕ → ℕ → Range
range_code c s n = cond (eqb c 16) (cond (eqb s 1) (Signed n) (Unsigned n)) (get_or primitives c Nothing)

pub range_at : (c k s n : ℕ) → T (ltb k 13) → c ≡ k → range_code c s n ≡ get_or primitives k Nothing
unfolding range_code
range_at c k s n t e = rw (e, ne_eqb k 16 (λ q. let l : k < 13 = ltb→lt k 13 t in omega arith))

pub range_signed : (c s n : ℕ) → c ≡ 16 → s ≡ 1 → range_code c s n ≡ Signed n
unfolding range_code
range_signed c s n e f = rw (e, f)

pub range_unsigned : (c s n : ℕ) → c ≡ 16 → (s ≡ 1 → ⊥) → range_code c s n ≡ Unsigned n
unfolding range_code
range_unsigned c s n e f = rw (e, ne_eqb s 1 f)

pub range_off : (c s n : ℕ) → (1 ≤ c → 12 < c) → (c ≡ 16 → ⊥) → range_code c s n ≡ Nothing
unfolding range_code
range_off zero s n a h = refl
range_off (suc c) s n a h =
    let l : length primitives ≤ suc c = omega (arith, a (omega arith)) in
    rw (ne_eqb (suc c) 16 h) (get_or-eq_default primitives Nothing l)

-- what is known past the arms for 1, 2, .. j, in this order
abbrev pub NoneTo : ℕ → ℕ → Type 0
NoneTo zero c = Unit {0}
NoneTo (suc j) c = NoneTo j c × (c ≡ suc j → ⊥)

pub past : (j c : ℕ) → NoneTo j c → 1 ≤ c → j < c
past zero c r l = l
past (suc j) c r l = let m : j < c = past j c r.0 l in omega (arith, r.1)

range_tree : (names : ℕ) (t : ResolvedType) → Good names t → range_of t ≡ range_code (word_of t 0) (word_of t 1) (word_of t 2)
unfolding range_of run range_code
range_tree names (ResolvedType.plain c) g = sym (rw (ne_eqb c 16 (plain_not_sub g)))
range_tree names (ResolvedType.sub s n) g = refl
range_tree names (ResolvedType.bits ns) g = refl
range_tree names (ResolvedType.named n) g = refl
range_tree names (ResolvedType.one c t) g =
    let o : Off c = one_off g.0 in
    sym (range_off c (word_of (ResolvedType.one c t) 1) (word_of (ResolvedType.one c t) 2) (λ l. omega arith) o.1)
range_tree names (ResolvedType.fixed low high t) g = refl
range_tree names (ResolvedType.two c t u) g =
    let o : Off c = two_off g.0 in
    sym (range_off c (word_of (ResolvedType.two c t u) 1) (word_of (ResolvedType.two c t u) 2) (λ l. omega arith) o.1)

pub range_held : {names : ℕ} {h : HeldType} {t : ResolvedType} {q : Range} → Holds names h t → range_code (word h 0) (word h 1) (word h 2) ≡ q → q ≡ range_of t
range_held {names} {t = t} p e =
    sym (range_tree names t p.good ∙ rw (held_word 0 p, held_word 1 p, held_word 2 p) e)
