-- An alias's first word tells whether it is Named or a primitive.
use Prim.Native.Nat.{ℕ, ◌+◌, ◌<◌, ◌≤◌}
use mathlib.Core.Path.{◌≡◌, refl, sym, ap, ◌∙◌}
use mathlib.Core.Bool.{Bool, cond}
use mathlib.Core.List.{List}
use mathlib.Core.Option.{Option, none, some}
use native.Mathlib.Omega.{arith}
use borrow.Author.Tests.{lt-ltb, le-ltb}
use lib.ListN.{get_or}
use Rattle.rules.specs.Words.{NONE}
use Rattle.rules.specs.Syntax.{ResolvedType, run}
use Rattle.rules.specs.Kinds.{type_kind}
use Rattle.rules.specs.Options.{then}
use Rattle.rules.specs.Substitute.{number, primitive}
use Rattle.rules.specs.declared.kinds.TypeKind.{TypeKind}
use Rattle.rules.specs.Good.{Stored}
use Rattle.image_words.proofs.Gives.{of}
use Rattle.image_words.specs.Stands.{Stands}
use Rattle.image_layout.specs.Open.{AliasStands}
use Rattle.pool_types.specs.TypeAt.{TypeStands}
use Rattle.pool_types.proofs.TypeAt.{type_gives, shape}
use Rattle.image_words.proofs.Heads.{head, tail}
use Rattle.type_from_pool.proofs.Heads.{type_head}

-- a primitive's code
plain_code : (c : ℕ) → c < 14 → type_kind c ≡ TypeKind.Plain
unfolding type_kind
plain_code c h = rw (lt-ltb c 14 h)

module _ (names : ℕ) (ws : List ℕ) (at n : ℕ) where
  pub named_type : (t : ResolvedType) → Stands ws (run t) at n → Stored names t → get_or ws at 0 ≡ 48 → number t ≡ some (get_or ws (at + 1) 0)
  unfolding run number
  named_type t s g e = go t s (sym (type_head names t g.good s) ∙ ap type_kind e ∙ (unfold type_kind in refl))
    where
      go : (t : ResolvedType) → Stands ws (run t) at n → shape t ≡ TypeKind.Named → number t ≡ some (get_or ws (at + 1) 0)
      go (ResolvedType.plain c) s k = absurd (let z : ◌≡◌ {A = ℕ} 0 1 = cc in omega arith)
      go (ResolvedType.sub b w) s k = absurd (let z : ◌≡◌ {A = ℕ} 0 1 = cc in omega arith)
      go (ResolvedType.bits ns) s k = absurd (let z : ◌≡◌ {A = ℕ} 0 1 = cc in omega arith)
      go (ResolvedType.named d) s k = ap (λ (x : ℕ). some x) (sym (head (tail s)))
      go (ResolvedType.one c t) s k = absurd (let z : ◌≡◌ {A = ℕ} 0 1 = cc in omega arith)
      go (ResolvedType.fixed low high t) s k = absurd (let z : ◌≡◌ {A = ℕ} 0 1 = cc in omega arith)
      go (ResolvedType.two c t u) s k = absurd (let z : ◌≡◌ {A = ℕ} 0 1 = cc in omega arith)

  pub other_type : (t : ResolvedType) → Stands ws (run t) at n → (get_or ws at 0 ≡ 48 → ⊥) → number t ≡ none
  unfolding run number
  other_type (ResolvedType.plain c) s h = refl
  other_type (ResolvedType.sub b w) s h = refl
  other_type (ResolvedType.bits ns) s h = refl
  other_type (ResolvedType.named d) s h = absurd (h (head s))
  other_type (ResolvedType.one c t) s h = refl
  other_type (ResolvedType.fixed low high t) s h = refl
  other_type (ResolvedType.two c t u) s h = refl

  pub primitive_type : (t : ResolvedType) → Stands ws (run t) at n → Stored names t → get_or ws at 0 < 14 → primitive t ≡ some (ResolvedType.plain (get_or ws at 0))
  unfolding run primitive
  primitive_type t s g l = go t s (sym (type_head names t g.good s) ∙ plain_code (get_or ws at 0) l)
    where
      go : (t : ResolvedType) → Stands ws (run t) at n → shape t ≡ TypeKind.Plain → primitive t ≡ some (ResolvedType.plain (get_or ws at 0))
      go (ResolvedType.plain c) s k =
          let e : get_or ws at 0 ≡ c = head s in
          let b : c < 14 = omega arith in
          ap (λ (b : Bool). cond b (some (ResolvedType.plain c)) none) (lt-ltb c 14 b) ∙ ap (λ (x : ℕ). some (ResolvedType.plain x)) (sym e)
      go (ResolvedType.sub b w) s k = absurd (let z : ◌≡◌ {A = ℕ} 0 1 = cc in omega arith)
      go (ResolvedType.bits ns) s k = absurd (let z : ◌≡◌ {A = ℕ} 0 1 = cc in omega arith)
      go (ResolvedType.named d) s k = absurd (let z : ◌≡◌ {A = ℕ} 0 1 = cc in omega arith)
      go (ResolvedType.one c t) s k = absurd (let z : ◌≡◌ {A = ℕ} 0 1 = cc in omega arith)
      go (ResolvedType.fixed low high t) s k = absurd (let z : ◌≡◌ {A = ℕ} 0 1 = cc in omega arith)
      go (ResolvedType.two c t u) s k = absurd (let z : ◌≡◌ {A = ℕ} 0 1 = cc in omega arith)

  pub no_primitive : (t : ResolvedType) → Stands ws (run t) at n → 14 ≤ get_or ws at 0 → primitive t ≡ none
  unfolding run primitive
  no_primitive (ResolvedType.plain c) s l =
      let e : get_or ws at 0 ≡ c = head s in
      let b : 14 ≤ c = omega arith in
      ap (λ (b : Bool). cond b (some (ResolvedType.plain c)) none) (le-ltb c 14 b)
  no_primitive (ResolvedType.sub b w) s l = refl
  no_primitive (ResolvedType.bits ns) s l = refl
  no_primitive (ResolvedType.named d) s l = refl
  no_primitive (ResolvedType.one c t) s l = refl
  no_primitive (ResolvedType.fixed low high t) s l = refl
  no_primitive (ResolvedType.two c t u) s l = refl

-- what an alias comes to under a question of its type
module _ (names : ℕ) (ws : List ℕ) (start : ℕ) {A : Type 0} (f : ResolvedType → Option A) where
  -- there is none at NONE
  pub no_alias : (o : Option ResolvedType) → AliasStands names ws start o → start ≡ NONE → then o f ≡ none
  unfolding then
  no_alias none a e = refl
  no_alias (some t) a e = absurd (a.0 e)

  -- elsewhere a type stands
  pub some_alias : (q : Option A) → (o : Option ResolvedType) → AliasStands names ws start o → (start ≡ NONE → ⊥)
      → ((t : ResolvedType) (n : ℕ) → Stands ws (run t) start n → Stored names t → f t ≡ q) → then o f ≡ q
  unfolding then
  some_alias q none a e h = absurd (e a)
  some_alias q (some t) a e h = let w : TypeStands names ws t start a.1.next = (of (type_gives names ws start) a.1.read).1 in h t a.1.next w.words_at w.good
