-- The steps of typing, by what the answers say.
use Prim.Native.Nat.{ℕ, ◌<◌}
use native.Mathlib.Omega.{arith}
use mathlib.Core.Path.{◌≡◌, refl, sym, ap, subst, ◌∙◌}
use mathlib.Core.Bool.{Bool, true, false}
use mathlib.Core.List.{List}
use mathlib.Core.Option.{Option, none, some}
use borrow.Author.Tests.{ne_eqb}
use Rattle.rules.specs.Syntax.{ResolvedType}
use Rattle.rules.specs.Types.{same_type}
use Rattle.rules.specs.Refusal.{Result, ok, err, ◌>>=◌, with_name}
use Rattle.rules.specs.Infer.{PortableExpr, PortableExprKind, typed, type_of, FunctionContext, type_mismatch, ensure_same_type, ended}
use Rattle.type_words.specs.declared.HeldType.{HeldType}
use Rattle.type_words.specs.Holds.{Holds, MaybeHolds}
use Rattle.type_words.specs.declared.MaybeType.{MaybeType}
use Rattle.type_words.proofs.Maybe.{some_of, none_of}
use Rattle.type_tests.specs.Tests.{Same}
use Rattle.infer_result.specs.declared.inferred.Inferred.{Inferred}
use Rattle.infer_result.specs.Says.{Says}

-- a step that refused, and one that accepted
module _ (names f : ℕ) where
  pub stop : (x : Result PortableExpr) (g : PortableExpr → Result PortableExpr) (r : Inferred) → Says names f x r → (r.number ≡ 0 → ⊥) → Says names f (x >>= g) r
  unfolding ◌>>=◌
  stop (ok v) g r s n = absurd (n s.0)
  stop (err e) g r s n = s

  pub go_on : (x : Result PortableExpr) (g : PortableExpr → Result PortableExpr) (r q : Inferred) → Says names f x r → r.number ≡ 0
      → ((v : PortableExpr) → x ≡ ok v → Holds names r.ty (type_of v) → Says names f (g v) q) → Says names f (x >>= g) q
  unfolding ◌>>=◌
  go_on (ok v) g r q s z h = h v refl s.1
  go_on (err e) g r q s z h = absurd (s.0 z)

  pub says_≡ : {x y : Result PortableExpr} (r : Inferred) → x ≡ y → Says names f y r → Says names f x r
  says_≡ r e s = subst (λ (z : Result PortableExpr). Says names f z r) (sym e) s

-- an accepted type
module _ (c : FunctionContext) (k : PortableExprKind) (context : ℕ) (t : ResolvedType) where
  pub ended_none : ended c none context t k ≡ ok (typed t k)
  unfolding ended
  ended_none = refl

  -- by the test
  abbrev tested : ResolvedType → Bool → Result PortableExpr
  tested u b = ◌>>=◌ {A = Unit {0}} (elim b as (λ _. Result (Unit {0})) [ true ↦ ok tt | false ↦ type_mismatch c {A = Unit {0}} context u t ]) (λ _. ok (typed t k))

  pub ended_same : (u : ResolvedType) → same_type u t ≡ true → ended c (some u) context t k ≡ ok (typed t k)
  unfolding ended ensure_same_type ◌>>=◌
  ended_same u e = ap (tested u) e

  pub ended_other : (u : ResolvedType) → same_type u t ≡ false → ended c (some u) context t k ≡ type_mismatch c context u t
  unfolding ended ensure_same_type ◌>>=◌ type_mismatch
  ended_other u e = ap (tested u) e

-- a refusal with a second name says itself
pub says_name : (names f : ℕ) (r : Inferred) → 0 < r.number → r.number < 20 → Says names f (err (with_name r.number f r.second.0)) r
says_name names f r l h = (
  λ z. omega arith,
  ap (λ (ws : List ℕ). record { number = r.number; function = f; second = r.second.0; detail = ws }) (rw (ne_eqb r.number 20 (λ z. omega arith), ne_eqb r.number 21 (λ z. omega arith))),
)

-- the test at an expression's end, by what is held
module _ (names : ℕ) (c : FunctionContext) (k : PortableExprKind) (context : ℕ) (m : MaybeType) (h : HeldType) (o : Option ResolvedType) (t : ResolvedType) (w : MaybeHolds names m o) (p : Holds names h t) (r : Inferred) where
  accept : (t : ResolvedType) → Holds names h t → (r.number ≡ 0) × (r.ty ≡ h) → Says names c.function (ok (typed t k)) r
  unfolding type_of
  accept t p a = (a.0, rw a.1 p)

  pub says_same : m.some ≡ true → (b : Bool) → Same m.ty h b → b ≡ true → (r.number ≡ 0) × (r.ty ≡ h) → Says names c.function (ended c o context t k) r
  says_same e b s q a =
      let v = some_of o w e in
      rw v.is (says_≡ names c.function r (ended_same c k context t v.value (sym (s.types names v.value v.holds names t p) ∙ q)) (accept t p a))

  pub says_other : m.some ≡ true → (b : Bool) → Same m.ty h b → b ≡ false
      → ((names : ℕ) (t u : ResolvedType) → Holds names m.ty t → Holds names h u → (c : FunctionContext) → Says names c.function (type_mismatch c context t u) r) → Says names c.function (ended c o context t k) r
  says_other e b s q a =
      let v = some_of o w e in
      rw v.is (says_≡ names c.function r (ended_other c k context t v.value (sym (s.types names v.value v.holds names t p) ∙ q)) (a names v.value t v.holds p c))

  pub says_free : m.some ≡ false → (r.number ≡ 0) × (r.ty ≡ h) → Says names c.function (ended c o context t k) r
  says_free e a = rw (none_of names m o w e) (says_≡ names c.function r (ended_none c k context t) (accept t p a))
