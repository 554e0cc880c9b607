-- Visits counted without a bound and compared with 1,024 once: the same answers as the rules', which stop on the way.
use Prim.Native.Nat.{ℕ, zero, suc, ◌+◌, ◌<◌}
use mathlib.Core.Path.{◌≡◌, refl, sym, ap, ◌∙◌, fun_ext}
use mathlib.Core.Bool.{Bool, true, false}
use mathlib.Core.List.{List, [], ◌∷◌}
use mathlib.Core.Option.{Option, none, some}
use native.Mathlib.Omega.{arith}
use lib.ListN.{length}
use lib.Dec.{leb}
use borrow.Author.Tests.{leb-false, lt-leb}
use Rattle.rules.specs.Syntax.{ResolvedType, TypeExpr, run, Param, CompiledSchema}
use Rattle.rules.specs.Types.{POISON}
use Rattle.rules.specs.Substitute.{Counted, too_large, done, after, bounded, lookup_alias, lookup_qualified, resolve_name, named_or_poison, expand, substitute_node, substitute_depth}
use Rattle.laws.specs.Visits.{cut, short, Rec, plain_expand, plain_node, plain_depth}

bounded_cut : (v : ℕ) (t : ResolvedType) → bounded v t ≡ cut (short v t)
unfolding bounded cut short
bounded_cut v t = go (leb v 1024) (leb (length (run t)) 64) refl
  where
    go : (x y : Bool) → leb v 1024 ≡ x
        → ◌≡◌ {A = Counted ResolvedType} (elim x as (λ _. Counted ResolvedType) [ true ↦ elim y as (λ _. Counted ResolvedType) [ true ↦ done v t | false ↦ too_large ] | false ↦ too_large ])
        (cut (elim y as (λ _. Counted ResolvedType) [ true ↦ done v t | false ↦ too_large ]))
    go true true e = sym (ap {B = Counted ResolvedType} (λ b. elim b as (λ _. Counted ResolvedType) [ true ↦ done v t | false ↦ too_large ]) e)
    go true false e = refl
    go false true e = sym (ap {B = Counted ResolvedType} (λ b. elim b as (λ _. Counted ResolvedType) [ true ↦ done v t | false ↦ too_large ]) e)
    go false false e = refl

-- past 1,024 nothing comes back
cut_past : (v : ℕ) (t : ResolvedType) → 1024 < v → cut (short v t) ≡ too_large
unfolding cut short
cut_past v t h = go (leb (length (run t)) 64)
  where
    go : (y : Bool) → cut (elim y as (λ _. Counted ResolvedType) [ true ↦ done v t | false ↦ too_large ]) ≡ too_large
    go true = ap {B = Counted ResolvedType} (λ b. elim b as (λ _. Counted ResolvedType) [ true ↦ done v t | false ↦ too_large ]) (lt-leb v 1024 h)
    go false = refl

one_part : (o : Counted ResolvedType) (g : ResolvedType → ResolvedType)
    → after (cut o) (λ v t. bounded (suc v) (g t)) ≡ cut (after o (λ v t. short (suc v) (g t)))
unfolding cut after
one_part too_large g = refl
one_part (done v t) g = go (leb v 1024) refl
  where
    go : (x : Bool) → leb v 1024 ≡ x
        → after (elim x as (λ _. Counted ResolvedType) [ true ↦ done v t | false ↦ too_large ]) (λ v t. bounded (suc v) (g t)) ≡ cut (short (suc v) (g t))
    go true e = bounded_cut (suc v) (g t)
    go false e = sym (cut_past (suc v) (g t) (omega (arith, leb-false v 1024 e)))

two_parts : (o : Counted ResolvedType) (h : ResolvedType → Counted ResolvedType) (g : ResolvedType → ResolvedType → ResolvedType)
    → after (cut o) (λ v t. after (cut (h t)) (λ w u. bounded (suc (v + w)) (g t u))) ≡ cut (after o (λ v t. after (h t) (λ w u. short (suc (v + w)) (g t u))))
unfolding cut after
two_parts too_large h g = refl
two_parts (done v t) h g = go (leb v 1024) refl
  where
    test : (w : ℕ) (u : ResolvedType) (y : Bool) → leb w 1024 ≡ y
        → after (elim y as (λ _. Counted ResolvedType) [ true ↦ done w u | false ↦ too_large ]) (λ w u. bounded (suc (v + w)) (g t u)) ≡ cut (short (suc (v + w)) (g t u))
    test w u true e = bounded_cut (suc (v + w)) (g t u)
    test w u false e = sym (cut_past (suc (v + w)) (g t u) (omega (arith, leb-false w 1024 e)))

    few : (p : Counted ResolvedType) → after (cut p) (λ w u. bounded (suc (v + w)) (g t u)) ≡ cut (after p (λ w u. short (suc (v + w)) (g t u)))
    few too_large = refl
    few (done w u) = test w u (leb w 1024) refl

    past : 1024 < v → (p : Counted ResolvedType) → too_large ≡ cut (after p (λ w u. short (suc (v + w)) (g t u)))
    past l too_large = refl
    past l (done w u) = sym (cut_past (suc (v + w)) (g t u) (omega arith))

    go : (x : Bool) → leb v 1024 ≡ x
        → after (elim x as (λ _. Counted ResolvedType) [ true ↦ done v t | false ↦ too_large ]) (λ v t. after (cut (h t)) (λ w u. bounded (suc (v + w)) (g t u)))
        ≡ cut (after (h t) (λ w u. short (suc (v + w)) (g t u)))
    go true e = few (h t)
    go false e = past (leb-false v 1024 e) (h t)

module _ (schema : CompiledSchema) where
  expand_cut : (r : Rec) (params : List (Param ResolvedType)) (a : TypeExpr) (o : Option (Param TypeExpr))
      → expand schema (λ ps e. cut (r ps e)) params a o ≡ cut (plain_expand schema r params a o)
  unfolding expand plain_expand
  expand_cut r params a none = bounded_cut 1 POISON
  expand_cut r params a (some alias) = two_parts (r params a) (λ t. r (record { name = alias.name; ty = t } ∷ []) alias.ty) (λ t u. u)

  node_cut : (r : Rec) (params : List (Param ResolvedType)) (e : TypeExpr) → substitute_node schema (λ ps e. cut (r ps e)) params e ≡ cut (plain_node schema r params e)
  unfolding substitute_node plain_node
  node_cut r params (TypeExpr.leaf t) = bounded_cut 1 t
  node_cut r params (TypeExpr.named x) = bounded_cut 1 (resolve_name schema params x)
  node_cut r params (TypeExpr.qualified s x) = bounded_cut 1 (named_or_poison (lookup_qualified schema s x))
  node_cut r params (TypeExpr.generic x a) = expand_cut r params a (lookup_alias schema x)
  node_cut r params (TypeExpr.one c a) = one_part (r params a) (ResolvedType.one c)
  node_cut r params (TypeExpr.fixed low high a) = one_part (r params a) (ResolvedType.fixed low high)
  node_cut r params (TypeExpr.two c a b) = two_parts (r params a) (λ t. r params b) (ResolvedType.two c)

  -- the rules' visits, stopped on the way, are the visits counted to the end and compared once
  pub compared_once : (f : ℕ) (params : List (Param ResolvedType)) (e : TypeExpr) → substitute_depth schema f params e ≡ cut (plain_depth schema f params e)
  unfolding substitute_depth plain_depth cut
  compared_once zero params e = refl
  compared_once (suc f) params e =
      let same : substitute_depth schema f ≡ (λ ps e. cut (plain_depth schema f ps e)) = fun_ext (λ ps. fun_ext (λ e. compared_once f ps e)) in
      ap (λ (r : Rec). substitute_node schema r params e) same ∙ node_cut (plain_depth schema f) params e
