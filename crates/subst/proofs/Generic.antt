-- A generic name that is an alias. Assumes nothing.
use Prim.Native.Nat.{ℕ, suc, ◌+◌}
use mathlib.Core.Path.{◌≡◌, refl, sym, ap, subst₂, ◌∙◌}
use mathlib.Core.Bool.{true}
use mathlib.Core.List.{List, [], ◌∷◌}
use mathlib.Core.Option.{Option, none, some}
use native.Mathlib.Omega.{arith}
use lib.ListN.{length, take}
use Rattle.rules.specs.Syntax.{ResolvedType, TypeExpr, Param, CompiledSchema}
use Rattle.rules.specs.Substitute.{after, lookup_alias}
use Rattle.laws.specs.Visits.{Rec, short, plain_expand, plain_node}
use Rattle.image_words.proofs.Steps.{true_false}
use Rattle.type_words.specs.declared.HeldType.{HeldType}
use Rattle.type_words.specs.Holds.{Holds}
use Rattle.subst_params.specs.Views.{Views, Written}
use Rattle.subst_params.proofs.Tables.{RowsTo, rows_more, views_taken}
use Rattle.subst_names.specs.declared.generic.Alias.{Alias}
use Rattle.type_from_pool.specs.Held.{ExprStands}
use Rattle.subst_names.specs.Aliases.{IsAlias}

module _ (s : CompiledSchema) (rec : Rec) (ps : List (Param ResolvedType)) (x : ℕ) (a : TypeExpr) where
  -- the argument, then the target with only the alias's parameter in view
  pub is_expanded : (p : Param TypeExpr) → lookup_alias s x ≡ some p
      → plain_node s rec ps (TypeExpr.generic x a) ≡ after (rec ps a) (λ v t. after (rec (record { name = p.name; ty = t } ∷ []) p.ty) (λ w u. short (suc (v + w)) u))
  unfolding plain_node plain_expand
  is_expanded p e = ap (plain_expand s rec ps a) e

module _ (names : ℕ) (ws : List ℕ) (r : Alias) where
  pub record Found (o : Option (Param TypeExpr)) : Type 0 where
    pub param : Param TypeExpr
    pub is : o ≡ some param
    pub name : r.param.0 ≡ param.name
    pub end : ℕ
    pub target : ExprStands names ws param.ty r.target end

  pub an_alias : (o : Option (Param TypeExpr)) → IsAlias names ws r o → r.some ≡ true → Found o
  an_alias none h e = absurd (true_false (sym e ∙ h))
  an_alias (some p) h e = record { param = p; is = refl; name = h.1; end = h.2; target = h.3 }

-- a table of one row is this parameter alone
pub one_view : (names : ℕ) (before after view : List ℕ) (x y : ℕ) (h : HeldType) (t : ResolvedType) → Written before after 0 x h → length before ≡ 66 → view ≡ take 66 after → x ≡ y → Holds names h t
    → Views names view 0 (record { name = y; ty = t } ∷ [])
one_view names before after view x y h t w size e name p =
    let r : RowsTo names after 66 0 (record { name = x; ty = t } ∷ []) = rows_more names before after 0 x h w t p 0 [] refl in
    let v = views_taken names after 66 (omega (arith, w.size, size)) 0 (record { name = x; ty = t } ∷ []) r in
    subst₂ (λ (l : List ℕ) (n : ℕ). Views names l 0 (record { name = n; ty = t } ∷ [])) (sym e) name v
