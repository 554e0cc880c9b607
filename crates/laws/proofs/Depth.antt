-- Depth never matters: what takes v visits at some depth takes them at every depth from v on.
use Prim.Native.Nat.{ℕ, zero, suc, ◌+◌, ◌≤◌, ◌<◌}
use mathlib.Core.Path.{◌≡◌, refl, sym, ap, ◌∙◌}
use mathlib.Core.Bool.{Bool, true, false}
use mathlib.Core.List.{List, [], ◌∷◌}
use mathlib.Core.Option.{Option, none, some}
use native.Mathlib.Omega.{arith}
use lib.ListN.{length}
use lib.Dec.{leb}
use borrow.Author.Tests.{le-leb, lt-leb, leb-true, leb-false}
use Rattle.rules.specs.Syntax.{ResolvedType, TypeExpr, run, Param, CompiledSchema}
use Rattle.rules.specs.Substitute.{Counted, too_large, done, after, lookup_alias, substitute_type}
use Rattle.rules.proofs.Clash.{clash}
use Rattle.laws.proofs.Counts.{Counts, too_large_counts, after_counts, any_counts}
use Rattle.laws.specs.Visits.{Rec, cut, short, plain_expand, plain_node, plain_depth}
use Rattle.laws.proofs.Visits.{compared_once}

pub record Parts {A B : Type 0} (o : Counted A) (k : ℕ → A → Counted B) (v : ℕ) (b : B) : Type 0 where
  pub visits : ℕ
  pub value : A
  pub first : o ≡ done visits value
  pub second : k visits value ≡ done v b

parts : {A B : Type 0} (o : Counted A) (k : ℕ → A → Counted B) (v : ℕ) (b : B) → after o k ≡ done v b → Parts o k v b
unfolding after
parts too_large k v b e = clash (cc)
parts (done x a) k v b e = record { visits = x; value = a; first = refl; second = e }

-- joined again
again : {A B : Type 0} (o : Counted A) (k : ℕ → A → Counted B) (x : ℕ) (a : A) (c : Counted B) → o ≡ done x a → k x a ≡ c → after o k ≡ c
unfolding after
again {A} {B} o k x a c e q = ap (λ (o : Counted A). after {A = A} {B = B} o k) e ∙ q

short_visits : (n : ℕ) (x : ResolvedType) (v : ℕ) (t : ResolvedType) → short n x ≡ done v t → n ≡ v
unfolding short
short_visits n x v t e = go (leb (length (run x)) 64) e
  where
    go : (b : Bool) → ◌≡◌ {A = Counted ResolvedType} (elim b as (λ _. Counted ResolvedType) [ true ↦ done n x | false ↦ too_large ]) (done v t) → n ≡ v
    go true e = cc
    go false e = clash (cc)

short_counts : (n : ℕ) (x : ResolvedType) → 1 ≤ n → Counts (short n x) (λ v t. 1 ≤ v)
short_counts n x l = record { holds = λ v t e. omega (arith, short_visits n x v t e) }

-- r' gives what r gives within g visits
abbrev Within : Rec → Rec → ℕ → Type 0
Within r r' g = (ps : List (Param ResolvedType)) (e : TypeExpr) (v : ℕ) (t : ResolvedType) → r ps e ≡ done v t → v ≤ g → r' ps e ≡ done v t

cut_few : (v : ℕ) (t : ResolvedType) → v ≤ 1024 → cut (done v t) ≡ done v t
unfolding cut
cut_few v t l = ap {B = Counted ResolvedType} (λ b. elim b as (λ _. Counted ResolvedType) [ true ↦ done v t | false ↦ too_large ]) (le-leb v 1024 l)

cut_many : (v : ℕ) (t : ResolvedType) → 1024 < v → cut (done v t) ≡ too_large
unfolding cut
cut_many v t l = ap {B = Counted ResolvedType} (λ b. elim b as (λ _. Counted ResolvedType) [ true ↦ done v t | false ↦ too_large ]) (lt-leb v 1024 l)

cut_none : cut too_large ≡ too_large
unfolding cut
cut_none = refl

-- o has all that p has up to 1,024 visits
abbrev Covers : Counted ResolvedType → Counted ResolvedType → Type 0
Covers o p = (v : ℕ) (t : ResolvedType) → p ≡ done v t → v ≤ 1024 → o ≡ done v t

-- where one has nothing up to 1,024 visits, the other has nothing
cut_nothing : (o p : Counted ResolvedType) → Covers o p → ((v : ℕ) (t : ResolvedType) → o ≡ done v t → 1024 < v) → cut p ≡ too_large
cut_nothing o too_large c n = cut_none
cut_nothing o (done w u) c n = go (leb w 1024) refl
  where
    go : (b : Bool) → leb w 1024 ≡ b → cut (done w u) ≡ too_large
    go true q = let l = leb-true w 1024 q in absurd (omega (arith, n w u (c w u refl l)))
    go false q = cut_many w u (leb-false w 1024 q)

-- results that agree up to 1,024 visits
same_cut : (o p : Counted ResolvedType) → Covers o p → Covers p o → cut o ≡ cut p
same_cut too_large p c d = cut_none ∙ sym (cut_nothing too_large p c (λ v t e. clash (cc)))
same_cut (done v t) p c d = go (leb v 1024) refl
  where
    go : (b : Bool) → leb v 1024 ≡ b → cut (done v t) ≡ cut p
    go true q = sym (ap cut (d v t refl (leb-true v 1024 q)))
    go false q =
        let l = leb-false v 1024 q in
        cut_many v t l ∙ sym (cut_nothing (done v t) p c (λ w u e. let same : v ≡ w = cc in omega arith))

module _ (schema : CompiledSchema) where
  module _ (r r' : Rec) (g : ℕ) (ih : Within r r' g) where
    one_within : (ps : List (Param ResolvedType)) (a : TypeExpr) (f : ResolvedType → ResolvedType) (v : ℕ) (t : ResolvedType)
        → after (r ps a) (λ v t. short (suc v) (f t)) ≡ done v t → v ≤ suc g → after (r' ps a) (λ v t. short (suc v) (f t)) ≡ done v t
    one_within ps a f v t e l =
        let k : ℕ → ResolvedType → Counted ResolvedType = λ v t. short (suc v) (f t) in
        let p = parts (r ps a) k v t e in
        let n = short_visits (suc p.visits) (f p.value) v t p.second in
        again (r' ps a) k p.visits p.value (done v t) (ih ps a p.visits p.value p.first (omega arith)) p.second

    two_within : (ps : List (Param ResolvedType)) (a : TypeExpr) (qs : ResolvedType → List (Param ResolvedType)) (b : TypeExpr) (f : ResolvedType → ResolvedType → ResolvedType) (v : ℕ) (t : ResolvedType)
        → after (r ps a) (λ v t. after (r (qs t) b) (λ w u. short (suc (v + w)) (f t u))) ≡ done v t → v ≤ suc g
        → after (r' ps a) (λ v t. after (r' (qs t) b) (λ w u. short (suc (v + w)) (f t u))) ≡ done v t
    two_within ps a qs b f v t e l =
        let p = parts (r ps a) (λ v t. after (r (qs t) b) (λ w u. short (suc (v + w)) (f t u))) v t e in
        let k : ℕ → ResolvedType → Counted ResolvedType = λ w u. short (suc (p.visits + w)) (f p.value u) in
        let q = parts (r (qs p.value) b) k v t p.second in
        let n = short_visits (suc (p.visits + q.visits)) (f p.value q.value) v t q.second in
        again (r' ps a) (λ v t. after (r' (qs t) b) (λ w u. short (suc (v + w)) (f t u))) p.visits p.value (done v t)
        (ih ps a p.visits p.value p.first (omega arith))
        (again (r' (qs p.value) b) k q.visits q.value (done v t) (ih (qs p.value) b q.visits q.value q.first (omega arith)) q.second)

    expand_within : (ps : List (Param ResolvedType)) (a : TypeExpr) (o : Option (Param TypeExpr)) (v : ℕ) (t : ResolvedType)
        → plain_expand schema r ps a o ≡ done v t → v ≤ suc g → plain_expand schema r' ps a o ≡ done v t
    unfolding plain_expand
    expand_within ps a none v t e l = e
    expand_within ps a (some alias) v t e l = two_within ps a (λ t. record { name = alias.name; ty = t } ∷ []) alias.ty (λ t u. u) v t e l

    node_within : Within (plain_node schema r) (plain_node schema r') (suc g)
    unfolding plain_node
    node_within ps (TypeExpr.leaf x) v t e l = e
    node_within ps (TypeExpr.named x) v t e l = e
    node_within ps (TypeExpr.qualified s x) v t e l = e
    node_within ps (TypeExpr.generic x a) v t e l = expand_within ps a (lookup_alias schema x) v t e l
    node_within ps (TypeExpr.one c a) v t e l = one_within ps a (ResolvedType.one c) v t e l
    node_within ps (TypeExpr.fixed low high a) v t e l = one_within ps a (ResolvedType.fixed low high) v t e l
    node_within ps (TypeExpr.two c a b) v t e l = two_within ps a (λ t. ps) b (ResolvedType.two c) v t e l

  -- every node is a visit
  expand_visits : (r : Rec) (ps : List (Param ResolvedType)) (a : TypeExpr) (o : Option (Param TypeExpr)) → Counts (plain_expand schema r ps a o) (λ v t. 1 ≤ v)
  unfolding plain_expand
  expand_visits r ps a none = short_counts 1 _ (omega arith)
  expand_visits r ps a (some alias) = after_counts any_counts (λ v t _. after_counts any_counts (λ w u _. short_counts _ _ (omega arith)))

  node_visits : (r : Rec) (ps : List (Param ResolvedType)) (e : TypeExpr) → Counts (plain_node schema r ps e) (λ v t. 1 ≤ v)
  unfolding plain_node
  node_visits r ps (TypeExpr.leaf x) = short_counts 1 _ (omega arith)
  node_visits r ps (TypeExpr.named x) = short_counts 1 _ (omega arith)
  node_visits r ps (TypeExpr.qualified s x) = short_counts 1 _ (omega arith)
  node_visits r ps (TypeExpr.generic x a) = expand_visits r ps a (lookup_alias schema x)
  node_visits r ps (TypeExpr.one c a) = after_counts any_counts (λ v t _. short_counts _ _ (omega arith))
  node_visits r ps (TypeExpr.fixed low high a) = after_counts any_counts (λ v t _. short_counts _ _ (omega arith))
  node_visits r ps (TypeExpr.two c a b) = after_counts any_counts (λ v t _. after_counts any_counts (λ w u _. short_counts _ _ (omega arith)))

  pub at_least_one : (f : ℕ) (ps : List (Param ResolvedType)) (e : TypeExpr) → Counts (plain_depth schema f ps e) (λ v t. 1 ≤ v)
  unfolding plain_depth
  at_least_one zero ps e = too_large_counts
  at_least_one (suc f) ps e = node_visits (plain_depth schema f) ps e

  -- what takes v visits at some depth takes them at every depth from v on
  pub enough : (f g : ℕ) → Within (plain_depth schema f) (plain_depth schema g) g
  unfolding plain_depth
  enough zero g ps e v t q l = clash (cc)
  enough (suc f) zero ps e v t q l = absurd (omega (arith, (at_least_one (suc f) ps e).holds v t q))
  enough (suc f) (suc g) ps e v t q l = node_within (plain_depth schema f) (plain_depth schema g) g (enough f g) ps e v t q l

  -- what needs at most 1,024 visits, at whatever depth, is what the rules give
  pub resolves : (f : ℕ) (ps : List (Param ResolvedType)) (e : TypeExpr) (v : ℕ) (t : ResolvedType)
      → plain_depth schema f ps e ≡ done v t → v ≤ 1024 → substitute_type schema ps e ≡ done v t
  unfolding substitute_type
  resolves f ps e v t q l = compared_once schema 1024 ps e ∙ ap cut (enough f 1024 ps e v t q l) ∙ cut_few v t l

  -- the rules' visits are those counted to the end, compared once
  pub counted_once : (ps : List (Param ResolvedType)) (e : TypeExpr) → substitute_type schema ps e ≡ cut (plain_depth schema 1024 ps e)
  unfolding substitute_type
  counted_once ps e = compared_once schema 1024 ps e
