-- The tests of the rules by the first words of a run. Assumes nothing.
use Prim.Native.Nat.{ℕ, ◌≤◌, ◌<◌}
use native.Mathlib.Omega.{arith}
use mathlib.Core.Path.{◌≡◌, refl, sym, ap, ap₂, ◌∙◌}
use mathlib.Core.Logic.{◌⊎◌, inl, inr, ⊎_elim}
use mathlib.Core.Bool.{Bool, true, false, ◌||◌, ◌&&◌, or-false}
use native.Mathlib.Decide.{ℕ_discrete}
use lib.Dec.{eqb}
use borrow.Author.Tests.{ne_eqb}
use Rattle.rules.specs.Words.{within}
use Rattle.rules.specs.Syntax.{ResolvedType, run}
use Rattle.rules.specs.Types.{is_numeric, is_signed_numeric, is_equality_type, is_float}
use Rattle.rules.specs.Good.{Good}
use Rattle.type_words.specs.declared.HeldType.{HeldType}
use Rattle.type_words.specs.Holds.{Holds}
use Rattle.codes.proofs.Codes.{in_within, off_within, primitive_in, semantic_in}
use Rattle.type_tests.proofs.Heads.{word, word_of, held_word, Off, one_off, two_off, plain_not_sub, same_plain}

unfoldable pub numeric_code : ℕ → Bool
numeric_code c = within 1 12 c || eqb c 16

unfoldable pub signed_code : ℕ → ℕ → Bool
signed_code c s = within 5 12 c || (eqb c 16 && eqb s 1)

unfoldable pub equality_code : Bool → ℕ → Bool
equality_code numeric c = numeric || eqb c 0 || eqb c 32

unfoldable pub float_code : ℕ → Bool
float_code c = eqb c 9 || eqb c 10

pub numeric_in : (c : ℕ) → 1 ≤ c → c ≤ 12 → numeric_code c ≡ true
unfolding numeric_code
numeric_in c a b = rw (in_within 1 12 c a b)

pub numeric_sub : (c : ℕ) → c ≡ 16 → numeric_code c ≡ true
numeric_sub c e = ap numeric_code e ∙ (unfold numeric_code in refl)

pub numeric_off : (c : ℕ) → (1 ≤ c → 12 < c) → (c ≡ 16 → ⊥) → numeric_code c ≡ false
unfolding numeric_code
numeric_off c a n = rw (off_within 1 12 c a, ne_eqb c 16 n)

pub signed_in : (c s : ℕ) → 5 ≤ c → c ≤ 12 → signed_code c s ≡ true
unfolding signed_code
signed_in c s a b = rw (in_within 5 12 c a b)

pub signed_sub : (c s : ℕ) → c ≡ 16 → signed_code c s ≡ eqb s 1
signed_sub c s e = ap (λ (x : ℕ). signed_code x s) e ∙ (unfold signed_code in refl)

pub signed_off : (c s : ℕ) → (5 ≤ c → 12 < c) → (c ≡ 16 → ⊥) → signed_code c s ≡ false
unfolding signed_code
signed_off c s a n = rw (off_within 5 12 c a, ne_eqb c 16 n)

pub equality_numeric : (c : ℕ) {numeric : Bool} → numeric ≡ true → equality_code numeric c ≡ true
unfolding equality_code
equality_numeric c e = rw e

pub equality_at : (c : ℕ) {numeric : Bool} → numeric ≡ false → (c ≡ 0) ⊎ (c ≡ 32) → equality_code numeric c ≡ true
unfolding equality_code
equality_at c e w = ap (λ (b : Bool). equality_code b c) e ∙ ⊎_elim (λ q. ap (equality_code false) q) (λ q. ap (equality_code false) q) w

pub equality_off : (c : ℕ) {numeric : Bool} → numeric ≡ false → ((c ≡ 0) ⊎ (c ≡ 32) → ⊥) → equality_code numeric c ≡ false
unfolding equality_code
equality_off c e n = rw (e, ne_eqb c 0 (λ q. n (inl q)), ne_eqb c 32 (λ q. n (inr q)))

pub float_in : (c : ℕ) → 9 ≤ c → c ≤ 10 → float_code c ≡ true
unfolding float_code
float_in c a b = go (ℕ_discrete c 9)
  where
    go : Dec (c ≡ 9) → (eqb c 9 || eqb c 10) ≡ true
    go (yes e) = ap float_code e
    go (no n) = let e : c ≡ 10 = omega arith in ap float_code e

pub float_off : (c : ℕ) → (9 ≤ c → 10 < c) → float_code c ≡ false
unfolding float_code
float_off c h = rw (ne_eqb c 9 (λ q. omega (arith, h (omega arith))), ne_eqb c 10 (λ q. omega (arith, h (omega arith))))

pub numeric_tree : (names : ℕ) (t : ResolvedType) → Good names t → is_numeric t ≡ numeric_code (word_of t 0)
unfolding is_numeric run numeric_code
numeric_tree names (ResolvedType.plain c) g = sym (or-false (within 1 12 c)) ∙ sym (ap (λ (b : Bool). within 1 12 c || b) (ne_eqb c 16 (plain_not_sub g)))
numeric_tree names (ResolvedType.sub s n) g = refl
numeric_tree names (ResolvedType.bits ns) g = refl
numeric_tree names (ResolvedType.named n) g = refl
numeric_tree names (ResolvedType.one c t) g = let o : Off c = one_off g.0 in sym (numeric_off c (λ l. omega arith) o.1)
numeric_tree names (ResolvedType.fixed low high t) g = refl
numeric_tree names (ResolvedType.two c t u) g = let o : Off c = two_off g.0 in sym (numeric_off c (λ l. omega arith) o.1)

pub signed_tree : (names : ℕ) (t : ResolvedType) → Good names t → is_signed_numeric t ≡ signed_code (word_of t 0) (word_of t 1)
unfolding is_signed_numeric run signed_code
signed_tree names (ResolvedType.plain c) g = sym (or-false (within 5 12 c)) ∙ sym (ap (λ (b : Bool). within 5 12 c || (b && false)) (ne_eqb c 16 (plain_not_sub g)))
signed_tree names (ResolvedType.sub s n) g = refl
signed_tree names (ResolvedType.bits ns) g = refl
signed_tree names (ResolvedType.named n) g = refl
signed_tree names (ResolvedType.one c t) g = let o : Off c = one_off g.0 in sym (signed_off c (word_of (ResolvedType.one c t) 1) (λ l. omega arith) o.1)
signed_tree names (ResolvedType.fixed low high t) g = refl
signed_tree names (ResolvedType.two c t u) g = let o : Off c = two_off g.0 in sym (signed_off c (word_of (ResolvedType.two c t u) 1) (λ l. omega arith) o.1)

pub equality_tree : (names : ℕ) (t : ResolvedType) → Good names t → is_equality_type t ≡ equality_code (is_numeric t) (word_of t 0)
unfolding is_equality_type equality_code
equality_tree names t g =
    ap₂ (λ (a b : Bool). is_numeric t || a || b) (same_plain names t 0 g (primitive_in 0 (omega arith))) (same_plain names t 32 g (semantic_in 32 (omega arith) (omega arith)))

pub float_tree : (names : ℕ) (t : ResolvedType) → Good names t → is_float t ≡ float_code (word_of t 0)
unfolding is_float float_code
float_tree names t g = ap₂ ◌||◌ (same_plain names t 9 g (primitive_in 9 (omega arith))) (same_plain names t 10 g (primitive_in 10 (omega arith)))

-- the same of a type that is held
module _ {names : ℕ} {h : HeldType} {t : ResolvedType} {b : Bool} (p : Holds names h t) where
  pub numeric_held : numeric_code (word h 0) ≡ b → b ≡ is_numeric t
  numeric_held e = sym (numeric_tree names t p.good ∙ ap numeric_code (held_word 0 p) ∙ e)

  pub signed_held : signed_code (word h 0) (word h 1) ≡ b → b ≡ is_signed_numeric t
  signed_held e = sym (signed_tree names t p.good ∙ ap₂ signed_code (held_word 0 p) (held_word 1 p) ∙ e)

  pub equality_held : equality_code (is_numeric t) (word h 0) ≡ b → b ≡ is_equality_type t
  equality_held e = sym (equality_tree names t p.good ∙ ap (equality_code (is_numeric t)) (held_word 0 p) ∙ e)

  pub float_held : float_code (word h 0) ≡ b → b ≡ is_float t
  float_held e = sym (float_tree names t p.good ∙ ap float_code (held_word 0 p) ∙ e)
