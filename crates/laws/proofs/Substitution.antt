-- What substitution gives: visits between 1 and 1,024, a run of at most 64 words, and a good type where all that it reads is good.
use Prim.Native.Nat.{ℕ, zero, suc, ◌≤◌}
use mathlib.Core.Path.{◌≡◌, refl}
use mathlib.Core.Bool.{Bool, true, false}
use mathlib.Core.List.{List}
use mathlib.Core.Option.{Option, none, some}
use native.Mathlib.Omega.{arith}
use lib.ListN.{length}
use lib.Dec.{leb}
use borrow.Author.Tests.{leb-true}
use Rattle.rules.specs.Syntax.{ResolvedType, TypeExpr, run, Param, Name, TypeDef, CompiledSchema}
use Rattle.rules.specs.Types.{POISON}
use Rattle.rules.specs.Substitute.{Counted, too_large, done, bounded, lookup_alias, lookup_qualified, expand, substitute_node, substitute_depth, substitute_type}
use Rattle.rules.specs.Good.{All, AllOption, Good, GoodExpr, Stored}
use Rattle.laws.proofs.Counts.{Counts, too_large_counts, done_counts, after_counts}
use Rattle.laws.proofs.Each.{map_option, any_all, any_option}
use Rattle.laws.specs.Visits.{Rec}
use Rattle.laws.specs.GoodSchema.{GoodSchema, GoodName, GoodDefinition}
use Rattle.laws.proofs.Kept.{Kept, Target, qualified_kept, alias_kept, named_kept, resolve_kept}
use Rattle.laws.specs.Substitution.{Accepted}

-- a node's result is accepted, and what holds of its type
bounded_counts : (P : ResolvedType → Type 0) (v : ℕ) (t : ResolvedType) → 1 ≤ v → P t → Counts (bounded v t) (λ w u. Accepted w u × P u)
unfolding bounded
bounded_counts P v t l p = go (leb v 1024) (leb (length (run t)) 64) refl refl
  where
    go : (x y : Bool) → leb v 1024 ≡ x → leb (length (run t)) 64 ≡ y
        → Counts (elim x as (λ _. Counted ResolvedType) [ true ↦ elim y as (λ _. Counted ResolvedType) [ true ↦ done v t | false ↦ too_large ] | false ↦ too_large ]) (λ w u. Accepted w u × P u)
    go true true a b = done_counts _ v t (record { visited = l; few = leb-true v 1024 a; short = leb-true (length (run t)) 64 b }, p)
    go true false a b = too_large_counts
    go false y a b = too_large_counts

module _ {N : Name → Type 0} {D : TypeDef → Type 0} {E : TypeExpr → Type 0} {P : ResolvedType → Type 0} (kept : Kept N D E P) (schema : CompiledSchema) (names : All N schema.names) (definitions : All D schema.definitions) where
  abbrev Result : ℕ → ResolvedType → Type 0
  Result v t = Accepted v t × P t

  abbrev Keeps : Rec → Type 0
  Keeps r = (ps : List (Param ResolvedType)) (e : TypeExpr) → All (λ p. P p.ty) ps → E e → Counts (r ps e) Result

  expand_keeps : (r : Rec) → Keeps r → (ps : List (Param ResolvedType)) (a : TypeExpr) (o : Option (Param TypeExpr)) → All (λ p. P p.ty) ps → E a → AllOption (Target kept) o
      → Counts (expand schema r ps a o) Result
  unfolding expand
  expand_keeps r ih ps a none h g k = bounded_counts P 1 POISON (omega arith) kept.poison
  expand_keeps r ih ps a (some alias) h g k =
      after_counts (ih ps a h g) (λ v t p. after_counts (ih _ alias.ty (p.1, tt) k) (λ w u q. bounded_counts P _ u (omega arith) q.1))

  node_keeps : (r : Rec) → Keeps r → Keeps (substitute_node schema r)
  unfolding substitute_node
  node_keeps r ih ps (TypeExpr.leaf t) h g = bounded_counts P 1 t (omega arith) (kept.leaf t g)
  node_keeps r ih ps (TypeExpr.named x) h g = bounded_counts P 1 _ (omega arith) (resolve_kept kept schema names definitions ps x h)
  node_keeps r ih ps (TypeExpr.qualified q x) h g = bounded_counts P 1 _ (omega arith) (named_kept kept schema names definitions (lookup_qualified schema q x) (qualified_kept kept schema names definitions q x))
  node_keeps r ih ps (TypeExpr.generic x a) h g = expand_keeps r ih ps a (lookup_alias schema x) h (kept.generic x a g) (alias_kept kept schema names definitions x)
  node_keeps r ih ps (TypeExpr.one c a) h g =
      let k = kept.one c a g in
      after_counts (ih ps a h k.0) (λ v t p. bounded_counts P _ (ResolvedType.one c t) (omega arith) (k.1 t p.1))
  node_keeps r ih ps (TypeExpr.fixed low high a) h g =
      let k = kept.fixed low high a g in
      after_counts (ih ps a h k.0) (λ v t p. bounded_counts P _ (ResolvedType.fixed low high t) (omega arith) (k.1 t p.1))
  node_keeps r ih ps (TypeExpr.two c a b) h g =
      let k = kept.two c a b g in
      after_counts (ih ps a h k.0) (λ v t p. after_counts (ih ps b h k.1) (λ w u q. bounded_counts P _ (ResolvedType.two c t u) (omega arith) (k.2 t u p.1 q.1)))

  depth_keeps : (f : ℕ) → Keeps (substitute_depth schema f)
  unfolding substitute_depth
  depth_keeps zero ps e h g = too_large_counts
  depth_keeps (suc f) ps e h g = node_keeps (substitute_depth schema f) (depth_keeps f) ps e h g

  -- the law: what is kept holds of every result, which is accepted besides
  pub substitute_keeps : (ps : List (Param ResolvedType)) (e : TypeExpr) → All (λ p. P p.ty) ps → E e → Counts (substitute_type schema ps e) (λ v t. Accepted v t × P t)
  unfolding substitute_type
  substitute_keeps ps e h g = depth_keeps 1024 ps e h g

module _ (schema : CompiledSchema) where
  abbrev Any : {A : Type 0} → A → Type 0
  Any a = Unit {0}

  -- nothing need be known of what is read
  any_kept : Kept Any Any Any Any
  any_kept = record {
    poison = tt;
    definition = λ n h. tt;
    alias = λ n h. any_option n.alias;
    target = λ a h. tt;
    leaf = λ t h. tt;
    generic = λ x a h. tt;
    one = λ c a h. (tt, λ t p. tt);
    fixed = λ low high a h. (tt, λ t p. tt);
    two = λ c a b h. (tt, tt, λ t u p q. tt);
  }

  -- an accepted expression has between 1 and 1,024 visits, and a run of at most 64 words
  pub substitute_accepted : (ps : List (Param ResolvedType)) (e : TypeExpr) → Counts (substitute_type schema ps e) Accepted
  substitute_accepted ps e = record { holds = λ v t q. ((substitute_keeps any_kept schema (any_all schema.names) (any_all schema.definitions) ps e (any_all ps) tt).holds v t q).0 }

module _ (names strings : ℕ) (schema : CompiledSchema) (s : GoodSchema names strings schema) where
  good_kept : Kept (GoodName names (length schema.definitions)) (GoodDefinition names strings) (GoodExpr names) (Good names)
  good_kept = record {
    poison = tt;
    definition = λ n h. tt;
    alias = λ n h. map_option {P = Stored names} {Q = Good names} (λ t g. g.good) n.alias h.alias;
    target = λ a h. h.target_type.good;
    leaf = λ t h. h.1;
    generic = λ x a h. h.1;
    one = λ c a h. (h.1, λ t p. (h.0, p));
    fixed = λ low high a h. (h, λ t p. p);
    two = λ c a b h. (h.1, h.2, λ t u p q. (h.0, p, q));
  }

  pub substitute_good : (ps : List (Param ResolvedType)) (e : TypeExpr) → All (λ p. Good names p.ty) ps → GoodExpr names e
      → Counts (substitute_type schema ps e) (λ v t. Accepted v t × Good names t)
  substitute_good ps e h g = substitute_keeps good_kept schema s.names_good s.definitions_good ps e h g
