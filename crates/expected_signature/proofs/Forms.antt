-- A trait function's return, by the word that it starts with. Assumes nothing.
use Prim.Native.Nat.{ℕ, ◌+◌, ◌<◌}
use mathlib.Core.Path.{◌≡◌, refl, sym, ap}
use mathlib.Core.List.{List}
use mathlib.Core.Option.{Option, none, some}
use native.Mathlib.Omega.{arith}
use lib.ListN.{length, get_or}
use Rattle.rules.specs.Syntax.{ResolvedType, TypeExpr, TraitReturn, CompiledSchema, Param}
use Rattle.rules.specs.Substitute.{Counted, too_large, done, after, substitute_type}
use Rattle.rules.specs.Signatures.{resolve_return}
use Rattle.pool_types.specs.TypeAt.{TypeStands}
use Rattle.pool_type_exprs.specs.TypeExprAt.{TypeExprStands}
use Rattle.pool_traits.specs.TraitAt.{TraitReturnAt}

-- a type as a return
abbrev returned : Counted ResolvedType → Counted (Option ResolvedType)
returned o = after o λ v t. done v (some t)

module _ (names : ℕ) (ws : List ℕ) (at n : ℕ) where
  pub return_inside : (t : TraitReturn) → TraitReturnAt names ws t at n → at < length ws
  return_inside TraitReturn.no_return h = h.0.inside
  return_inside (TraitReturn.resolved t) h = h.0.inside
  return_inside (TraitReturn.expression e) h = h.0.inside

  module _ (schema : CompiledSchema) (ps : List (Param ResolvedType)) where
    pub none_at : (t : TraitReturn) → TraitReturnAt names ws t at n → get_or ws at 0 ≡ 0 → (resolve_return schema ps t ≡ done 0 none) × (at + 1 ≡ n)
    unfolding resolve_return
    none_at TraitReturn.no_return h e = (refl, sym h.1)
    none_at (TraitReturn.resolved t) h e = absurd (omega (arith, h.0.is))
    none_at (TraitReturn.expression x) h e = absurd (omega (arith, h.0.is))

    pub record ResolvedAt (t : TraitReturn) : Type 0 where
      pub ty : ResolvedType
      pub is : resolve_return schema ps t ≡ done 0 (some ty)
      pub stands : TypeStands names ws ty (at + 1) n

    pub resolved_at : (t : TraitReturn) → TraitReturnAt names ws t at n → get_or ws at 0 ≡ 1 → ResolvedAt t
    unfolding resolve_return
    resolved_at TraitReturn.no_return h e = absurd (omega (arith, h.0.is))
    resolved_at (TraitReturn.resolved t) h e = record { ty = t; is = refl; stands = h.1 }
    resolved_at (TraitReturn.expression x) h e = absurd (omega (arith, h.0.is))

    pub record ExpressionAt (t : TraitReturn) : Type 0 where
      pub expr : TypeExpr
      pub large : substitute_type schema ps expr ≡ too_large → resolve_return schema ps t ≡ too_large
      pub makes : {v : ℕ} {u : ResolvedType} → substitute_type schema ps expr ≡ done v u → resolve_return schema ps t ≡ done v (some u)
      pub stands : TypeExprStands names ws expr (at + 1) n

    pub expression_at : (t : TraitReturn) → TraitReturnAt names ws t at n → (get_or ws at 0 ≡ 0 → ⊥) → (get_or ws at 0 ≡ 1 → ⊥) → ExpressionAt t
    unfolding resolve_return after
    expression_at TraitReturn.no_return h e f = absurd (e h.0.is)
    expression_at (TraitReturn.resolved t) h e f = absurd (f h.0.is)
    expression_at (TraitReturn.expression x) h e f = record { expr = x; large = λ q. ap returned q; makes = λ q. ap returned q; stands = h.1 }
