-- What each function's answer means, by the node that it reads.
use Rattle.std.specs.Prelude.{ℕ, suc, ◌≤◌, List}
use Rattle.rules.specs.Syntax.{ResolvedType, TypeExpr, Param, CompiledSchema}
use Rattle.rules.specs.Types.{POISON}
use Rattle.rules.specs.Substitute.{lookup_qualified, named_or_poison, resolve_name}
use Rattle.laws.specs.Visits.{short, plain_node, plain_depth}
use Rattle.image_layout.specs.declared.Layout.{Layout}
use Rattle.image_layout.specs.Open.{Open, pool_words}
use Rattle.subst_params.specs.Views.{Views}
use Rattle.type_from_pool.specs.Held.{ExprStands}
use Rattle.subst_leaves.specs.declared.Resolved.{Resolved}
use Rattle.subst_leaves.specs.Says.{Says}

module _ (l : Layout) (at left : ℕ) where
  -- e stands at `at` and ends before n
  abbrev pub At : TypeExpr → ℕ → Type 0
  At e n = ExprStands l.names.rows (pool_words l) e at n

  -- one visit, and this type
  abbrev pub OneVisit : ℕ → ResolvedType → Resolved → Type 0
  OneVisit n t r = Says l.names.rows (suc left) n (short 1 t) r

  abbrev pub Leaves : Resolved → Type 0
  Leaves r = (t : ResolvedType) (n : ℕ) → At (TypeExpr.leaf t) n → OneVisit n t r

  abbrev pub Qualifieds : Resolved → Type 0
  Qualifieds r = (s : CompiledSchema) → Open l s → (q x n : ℕ) → At (TypeExpr.qualified q x) n → OneVisit n (named_or_poison (lookup_qualified s q x)) r

  -- whatever stands there is passed over
  abbrev pub Poisons : Resolved → Type 0
  Poisons r = (a : TypeExpr) (n : ℕ) → At a n → OneVisit n POISON r

  module _ (params : List ℕ) (r : Resolved) where
    abbrev pub Names : Type 0
    Names = (s : CompiledSchema) → Open l s → (ps : List (Param ResolvedType)) → Views l.names.rows params 0 ps → (x n : ℕ) → At (TypeExpr.named x) n → OneVisit n (resolve_name s ps x) r

    -- for each schema that the image holds, type parameters in view, and depth for the visits left
    abbrev pub Each : (CompiledSchema → ℕ → List (Param ResolvedType) → Type 0) → Type 0
    Each P = (s : CompiledSchema) → Open l s → (f : ℕ) → left ≤ f → (ps : List (Param ResolvedType)) → Views l.names.rows params 0 ps → P s f ps

    -- the whole expression
    abbrev pub Substitutes : Type 0
    Substitutes = Each (λ s f ps. (e : TypeExpr) (n : ℕ) → At e n → Says l.names.rows left n (plain_depth s f ps e) r)

    -- a node whose visit is taken off already
    abbrev pub Node : CompiledSchema → ℕ → List (Param ResolvedType) → TypeExpr → Type 0
    Node s f ps e = (n : ℕ) → At e n → Says l.names.rows (suc left) n (plain_node s (plain_depth s f) ps e) r

    abbrev pub Ones : Type 0
    Ones = Each (λ s f ps. (c : ℕ) (a : TypeExpr) → Node s f ps (TypeExpr.one c a))

    abbrev pub Fixeds : Type 0
    Fixeds = Each (λ s f ps. (low high : ℕ) (a : TypeExpr) → Node s f ps (TypeExpr.fixed low high a))

    abbrev pub Twos : Type 0
    Twos = Each (λ s f ps. (c : ℕ) (a b : TypeExpr) → Node s f ps (TypeExpr.two c a b))

    abbrev pub Generics : Type 0
    Generics = Each (λ s f ps. (x : ℕ) (a : TypeExpr) → Node s f ps (TypeExpr.generic x a))
