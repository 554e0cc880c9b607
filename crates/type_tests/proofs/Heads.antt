-- The first word of a held type's run: its code, and what the code tells of the type. Assumes nothing.
use Prim.Native.Nat.{ℕ, ◌≤◌}
use mathlib.Core.Path.{◌≡◌, refl, sym, ap, ◌∙◌}
use mathlib.Core.Bool.{Bool, true, false}
use mathlib.Core.List.{List, [], ◌∷◌}
use lib.ListN.{get_or}
use lib.Dec.{ltb, eqb}
use borrow.Author.Tests.{eqb-true, eqb-false, ltb-false, ltb-true}
use Rattle.rules.specs.Syntax.{ResolvedType, run}
use Rattle.rules.specs.Types.{same_type}
use Rattle.rules.specs.Kinds.{type_kind}
use Rattle.rules.specs.declared.kinds.TypeKind.{TypeKind}
use Rattle.rules.proofs.Clash.{clash}
use Rattle.rules.specs.Good.{Good}
use Rattle.laws.proofs.Same.{same_false, same_type_self}
use Rattle.type_words.specs.declared.HeldType.{HeldType}
use Rattle.type_words.specs.Runs.{held_run}
use Rattle.type_words.specs.Holds.{Holds}
use Rattle.codes.proofs.Codes.{sub_at, primitive_in}

-- the i-th word of a held type, and of a type
abbrev pub word : HeldType → ℕ → ℕ
word h i = get_or (held_run h) i 0

abbrev pub word_of : ResolvedType → ℕ → ℕ
word_of t i = get_or (run t) i 0

pub held_word : {names : ℕ} {h : HeldType} {t : ResolvedType} (i : ℕ) → Holds names h t → word_of t i ≡ word h i
held_word i p = sym (ap (λ (l : List ℕ). get_or l i 0) p.run)

-- a code of another kind is neither a primitive's nor sub-byte's
head_off : {c : ℕ} (k : TypeKind) → type_kind c ≡ k → (k ≡ TypeKind.Plain → ⊥) → (k ≡ TypeKind.Sub → ⊥) → (14 ≤ c) × (c ≡ 16 → ⊥)
head_off {c} k e p s = (go (ltb c 14) refl, λ q. s (sym e ∙ sub_at q))
  where
    go : (b : Bool) → ltb c 14 ≡ b → 14 ≤ c
    go true q = absurd (p (sym e ∙ primitive_in c (ltb-true c 14 q)))
    go false q = ltb-false c 14 q

-- a container's code is no number's
abbrev pub Off : ℕ → Type 0
Off c = (14 ≤ c) × (c ≡ 16 → ⊥)

pub one_off : {c : ℕ} → type_kind c ≡ TypeKind.One → Off c
one_off k = head_off TypeKind.One k (λ e. clash (cc)) (λ e. clash (cc))

pub two_off : {c : ℕ} → type_kind c ≡ TypeKind.Two → Off c
two_off k = head_off TypeKind.Two k (λ e. clash (cc)) (λ e. clash (cc))

pub plain_not_sub : {c : ℕ} → type_kind c ≡ TypeKind.Plain → c ≡ 16 → ⊥
plain_not_sub k e = let q : type_kind 16 ≡ TypeKind.Sub = unfold type_kind in refl in let r : type_kind 16 ≡ TypeKind.Plain = sym (ap type_kind e) ∙ k in clash (cc)

-- a type whose code is plain is that leaf
pub plain_head : (names : ℕ) (t : ResolvedType) → Good names t → type_kind (word_of t 0) ≡ TypeKind.Plain → t ≡ ResolvedType.plain (word_of t 0)
unfolding run
plain_head names (ResolvedType.plain c) g k = refl
plain_head names (ResolvedType.sub s n) g k = let q : type_kind 16 ≡ TypeKind.Sub = sub_at refl in clash (cc)
plain_head names (ResolvedType.bits ns) g k = let q : type_kind 80 ≡ TypeKind.Bits = unfold type_kind in refl in clash (cc)
plain_head names (ResolvedType.named n) g k = let q : type_kind 48 ≡ TypeKind.Named = unfold type_kind in refl in clash (cc)
plain_head names (ResolvedType.one c t) g k = let q : type_kind c ≡ TypeKind.One = g.0 in clash (cc)
plain_head names (ResolvedType.fixed low high t) g k = let q : type_kind 66 ≡ TypeKind.Fixed = unfold type_kind in refl in clash (cc)
plain_head names (ResolvedType.two c t u) g k = let q : type_kind c ≡ TypeKind.Two = g.0 in clash (cc)

-- equality with a leaf is equality of the codes
pub same_plain : (names : ℕ) (t : ResolvedType) (c : ℕ) → Good names t → type_kind c ≡ TypeKind.Plain → same_type t (ResolvedType.plain c) ≡ eqb (word_of t 0) c
same_plain names t c g k = go (eqb (word_of t 0) c) refl
  where
    leaf : word_of t 0 ≡ c → t ≡ ResolvedType.plain c
    leaf e = plain_head names t g (ap type_kind e ∙ k) ∙ ap ResolvedType.plain e

    go : (b : Bool) → eqb (word_of t 0) c ≡ b → same_type t (ResolvedType.plain c) ≡ b
    go true e = ap (λ (u : ResolvedType). same_type u (ResolvedType.plain c)) (leaf (eqb-true (word_of t 0) c e)) ∙ same_type_self (ResolvedType.plain c)
    go false e = unfold same_type run in same_false (run t) (c ∷ []) (λ q. eqb-false (word_of t 0) c e (ap (λ (l : List ℕ). get_or l 0 0) q))
