-- Laws: places: an expression that has its type by itself, or a refusal with its name.
use Prim.Native.Nat.{ℕ}
use mathlib.Core.Path.{◌≡◌, refl, ap}
use mathlib.Core.Bool.{true, false}
use mathlib.Core.Option.{Option}
use Rattle.rules.specs.Syntax.{ResolvedType, Expr}
use Rattle.rules.specs.Refusal.{err, ◌>>=◌, or_refuse, with_name}
use Rattle.rules.specs.Infer.{PortableExprKind, FunctionContext, place, place_type, expression_hint, ended, infer_expr}
use Rattle.type_words.specs.declared.MaybeType.{MaybeType}
use Rattle.type_words.specs.Holds.{Holds, MaybeHolds}
use Rattle.type_words.proofs.Maybe.{some_of, none_of}
use Rattle.infer_result.specs.declared.inferred.Inferred.{Inferred}
use Rattle.infer_result.specs.Says.{Says}
use Rattle.infer_result.proofs.Steps.{says_≡}
use Rattle.infer_leaves.specs.Placed.{placed}

module _ (c : FunctionContext) (o : Option ResolvedType) (context : ℕ) where
  pub local_placed : (x : ℕ) → infer_expr c (Expr.local x) o context ≡ placed c 16 x (expression_hint c (Expr.local x)) o context (PortableExprKind.local x)
  unfolding infer_expr placed expression_hint place place_type
  local_placed x = refl

  pub self_placed : (x : ℕ) → infer_expr c Expr.self_ref o context ≡ placed c 16 x (expression_hint c Expr.self_ref) o context PortableExprKind.self_ref
  unfolding infer_expr placed expression_hint place place_type or_refuse ◌>>=◌
  self_placed x = refl

  pub field_placed : (x : ℕ) (e : Expr) → infer_expr c (Expr.field_access x e) o context ≡ placed c 17 x (expression_hint c (Expr.field_access x e)) o context (PortableExprKind.self_field x)
  unfolding infer_expr placed expression_hint place
  field_placed x e = refl

  -- by what is held
  module _ (names number x : ℕ) (hint : Option ResolvedType) (k : PortableExprKind) (m : MaybeType) (w : MaybeHolds names m hint) (r : Inferred) where
    pub says_found : m.some ≡ true → ((t : ResolvedType) → Holds names m.ty t → Says names c.function (ended c o context t k) r) → Says names c.function (placed c number x hint o context k) r
    unfolding placed or_refuse ◌>>=◌
    says_found e h = let v = some_of hint w e in says_≡ names c.function r (ap (λ (i : Option ResolvedType). or_refuse i (with_name number c.function x) >>= λ t. ended c o context t k) v.is) (h v.value v.holds)

    pub says_missing : m.some ≡ false → Says names c.function (err (with_name number c.function x)) r → Says names c.function (placed c number x hint o context k) r
    unfolding placed or_refuse ◌>>=◌
    says_missing e h = says_≡ names c.function r (ap (λ (i : Option ResolvedType). or_refuse i (with_name number c.function x) >>= λ t. ended c o context t k) (none_of names m hint w e)) h
