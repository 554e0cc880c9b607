-- Literals: the words that stand there, and what their typing comes to.
use Prim.Native.Nat.{ℕ, ◌+◌, ◌*◌, ◌<◌}
use mathlib.Core.Path.{◌≡◌, refl, ap, ◌∙◌}
use mathlib.Core.Bool.{true, false}
use mathlib.Core.List.{List, [], ◌∷◌}
use mathlib.Core.Option.{Option, none, some}
use lib.ListN.{length, get_or}
use borrow.Author.Tests.{eq-eqb, ne_eqb}
use Rattle.rules.specs.Syntax.{ResolvedType, Expr}
use Rattle.rules.specs.Fits.{literal_own}
use Rattle.rules.specs.Refusal.{Result, ◌>>=◌}
use Rattle.rules.specs.Infer.{PortableExpr, PortableExprKind, FunctionContext, type_mismatch, ended, infer_literal, infer_expr}
use Rattle.laws.specs.Runs.{expr_words}
use Rattle.rules.proofs.Clash.{clash}
use Rattle.type_words.specs.declared.HeldType.{HeldType}
use Rattle.type_words.specs.declared.MaybeType.{MaybeType}
use Rattle.type_words.specs.Runs.{Made}
use Rattle.type_words.specs.Holds.{Holds, MaybeHolds}
use Rattle.type_words.proofs.Maybe.{some_of, none_of}
use Rattle.type_words.proofs.Trees.{plain_holds}
use Rattle.codes.proofs.Codes.{primitive_in}
use Rattle.literal_fits.specs.Literals.{literal_type}
use Rattle.literal_fits.proofs.Inferred.{literal_typed, literal_refused}
use Rattle.image_words.proofs.Heads.{head, tail, inside}
use Rattle.infer_context.specs.Stood.{Stood}
use Rattle.infer_result.specs.declared.inferred.Inferred.{Inferred}
use Rattle.infer_result.specs.Says.{Says}
use Rattle.infer_result.proofs.Steps.{says_≡}

-- its words
pub record Words (ws : List ℕ) (at c low high : ℕ) : Type 0 where
  pub code : get_or ws at 0 ≡ c
  pub known : c < 3
  pub first : at + 1 < length ws
  pub low_at : get_or ws (at + 1) 0 ≡ low
  pub high_at : get_or ws (at + 1 + 1) 0 ≡ high

pub words_of : {names strings : ℕ} {ws : List ℕ} {nest at n c low high : ℕ} → Stood names strings ws nest (Expr.literal c low high) at n → Words ws at c low high
unfolding expr_words
words_of s = record { code = head s.words_at; known = s.nested.good; first = inside (tail s.words_at); low_at = head (tail s.words_at); high_at = head (tail (tail s.words_at)) }

-- a literal's own type, by its code
pub own_held : (names c k : ℕ) {h : HeldType} → literal_own c ≡ ResolvedType.plain k → k < 14 → Made h (k ∷ []) false → Holds names h (literal_own c)
own_held names c k e l r = rw e (plain_holds names r (primitive_in k l))

pub own_int : (c : ℕ) → c ≡ 0 → literal_own c ≡ ResolvedType.plain 8
unfolding literal_own
own_int c e = rw (eq-eqb c 0 e)

pub own_uint : (c : ℕ) → (c ≡ 0 → ⊥) → c ≡ 1 → literal_own c ≡ ResolvedType.plain 4
unfolding literal_own
own_uint c n e = rw (ne_eqb c 0 n, eq-eqb c 1 e)

pub own_float : (c : ℕ) → (c ≡ 0 → ⊥) → (c ≡ 1 → ⊥) → literal_own c ≡ ResolvedType.plain 10
unfolding literal_own
own_float c n m = rw (ne_eqb c 0 n, ne_eqb c 1 m)

-- the type that it takes, or a mismatch in its own context
module _ (c : FunctionContext) (names context k low high : ℕ) (o : Option ResolvedType) (m : MaybeType) (w : MaybeHolds names m (literal_type k (low + 4294967296 * high) o)) (r : Inferred) where
  abbrev then_ended : Result ResolvedType → Result PortableExpr
  then_ended x = x >>= λ t. ended c o context t (PortableExprKind.literal k low high)

  pub says_typed : m.some ≡ true → ((t : ResolvedType) → Holds names m.ty t → Says names c.function (ended c o context t (PortableExprKind.literal k low high)) r)
      → Says names c.function (infer_expr c (Expr.literal k low high) o context) r
  unfolding infer_expr ◌>>=◌
  says_typed e h =
      let v = some_of (literal_type k (low + 4294967296 * high) o) w e in
      says_≡ names c.function r (ap then_ended (literal_typed c k (low + 4294967296 * high) o v.value v.is)) (h v.value v.holds)

  pub says_mismatch : m.some ≡ false → (x : MaybeType) → MaybeHolds names x o → ((t : ResolvedType) → Holds names x.ty t → Says names c.function (type_mismatch c k t (literal_own k)) r)
      → Says names c.function (infer_expr c (Expr.literal k low high) o context) r
  unfolding infer_expr ◌>>=◌ type_mismatch
  says_mismatch e x i h = go o i (none_of names m (literal_type k (low + 4294967296 * high) o) w e) refl
    where
      go : (p : Option ResolvedType) → MaybeHolds names x p → literal_type k (low + 4294967296 * high) p ≡ none → o ≡ p → Says names c.function (infer_expr c (Expr.literal k low high) o context) r
      go none i q f = clash (let z : ◌≡◌ {A = Option ResolvedType} (some (literal_own k)) none = (unfold literal_type in q) in cc)
      go (some t) i q f = says_≡ names c.function r (ap then_ended (ap (infer_literal c k (low + 4294967296 * high)) f ∙ literal_refused c k (low + 4294967296 * high) t q)) (h t i.1)
