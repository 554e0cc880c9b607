-- The signatures that a trait asks for: typed, with visits that stay small.
use Prim.Native.Nat.{ℕ, suc, ◌*◌, ◌≤◌}
use mathlib.Core.Path.{◌≡◌, refl, ap, ap₂}
use mathlib.Core.Bool.{Bool, true, false, not, ◌||◌}
use mathlib.Core.List.{List, [], ◌∷◌, map}
use mathlib.Core.Option.{Option, none, some}
use native.Mathlib.Omega.{arith}
use lib.ListN.{length}
use lib.Dec.{eqb}
use Rattle.rules.specs.Syntax.{ResolvedType, TypeExpr, TraitReturn, TraitFnDef, TraitDef, ImplDef, CompiledSchema, Param}
use Rattle.rules.specs.Types.{normalize_return, same_type, VOID}
use Rattle.rules.specs.Substitute.{Counted, too_large, done, view, substitute_type}
use Rattle.rules.specs.Signatures.{PortableSignature, poisoned_params, poisoned_return, resolve_params, resolve_return, resolve_signature, expected_function, expected_list, expected_functions}
use Rattle.rules.specs.Good.{All, AllOption, Good, Stored}
use Rattle.laws.specs.TypeExprs.{StoredExpr}
use Rattle.laws.specs.DefinitionRuns.{GoodParam, GoodReturn, GoodTraitFunction, GoodTrait, GoodImpl}
use Rattle.laws.specs.GoodSchema.{GoodSchema}
use Rattle.laws.proofs.Counts.{Counts, done_counts, after_counts}
use Rattle.laws.proofs.Substitution.{substitute_good}
use Rattle.rules.specs.Typed.{TypedParam, TypedSignature}
use Rattle.laws_answers.proofs.Ends as ends
use Rattle.laws_answers.proofs.Ends.{Ends, Short}
use Rattle.laws_answers.specs.Bounds.{function_visits}

-- a signature for each of a trait's functions, in order, and their visits
pub record Signed (names : ℕ) (fs : List TraitFnDef) (p : ℕ × List PortableSignature) : Type 0 where
  pub visits : p.0 ≤ function_visits * length fs
  pub each : All (TypedSignature names) p.1
  pub named : map (λ s. s.name) p.1 ≡ map (λ f. f.name) fs
  pub counted : length p.1 ≡ length fs

-- Void as a return means none
pub normalize_stored : (names : ℕ) (t : Option ResolvedType) → AllOption (Stored names) t → AllOption (Stored names) (normalize_return t)
unfolding normalize_return
normalize_stored names none h = tt
normalize_stored names (some t) h = go (same_type t VOID)
  where
    go : (b : Bool) → AllOption (Stored names) (elim b as (λ _. Option ResolvedType) [ true ↦ none | false ↦ some t ])
    go true = tt
    go false = h

-- type parameters with stored arguments
view_good : (names : ℕ) (xs : List ℕ) (ts : List ResolvedType) → All (Stored names) ts → All (λ (p : Param ResolvedType). Good names p.ty) (view xs ts)
unfolding view
view_good names [] ts h = tt
view_good names (x ∷ xs) [] h = tt
view_good names (x ∷ xs) (t ∷ ts) h = (h.0.good, view_good names xs ts h.1)

module _ (names strings : ℕ) (schema : CompiledSchema) (s : GoodSchema names strings schema) (params : List (Param ResolvedType)) (given : All (λ (p : Param ResolvedType). Good names p.ty) params) where
  -- an expression's type, with at most 1,024 visits
  substituted : (e : TypeExpr) → StoredExpr names e → Counts (substitute_type schema params e) (λ v t. (v ≤ 1024) × Stored names t)
  substituted e g = record {
    holds = λ v t q. let h = (substitute_good names strings schema s params e given g.good).holds v t q in (h.0.few, record { good = h.1; short = h.0.short });
  }

  params_count : (ps : List (Param TypeExpr)) → All (GoodParam names (StoredExpr names)) ps
      → Counts (resolve_params schema params ps) (λ v ts. (v ≤ 1024 * length ps) × (length ts ≡ length ps) × All (TypedParam names) ts)
  unfolding resolve_params
  params_count [] h = done_counts _ 0 [] (omega arith, refl, tt)
  params_count (p ∷ ps) h =
      after_counts (substituted p.ty h.0.ty) (λ v t a. after_counts (params_count ps h.1) (λ w ts b.
      done_counts _ _ _ (omega (arith, a.0, b.0), ap suc b.1, (a.1, b.2))))

  return_counts : (t : TraitReturn) → GoodReturn names t → Counts (resolve_return schema params t) (λ v t. (v ≤ 1024) × AllOption (Stored names) t)
  unfolding resolve_return
  return_counts TraitReturn.no_return g = done_counts _ 0 none (omega arith, tt)
  return_counts (TraitReturn.resolved t) g = done_counts _ 0 (some t) (omega arith, g)
  return_counts (TraitReturn.expression e) g = after_counts (substituted e g) (λ v t h. done_counts _ v (some t) (h.0, h.1))

  signature_counts : (f : TraitFnDef) → GoodTraitFunction names f → Counts (resolve_signature schema params f) (λ v t. (v ≤ function_visits) × TypedSignature names t × (t.name ≡ f.name))
  unfolding resolve_signature
  signature_counts f g =
      after_counts (params_count f.params g.params.each) (λ v ps a. after_counts (return_counts f.return_type g.return_type) (λ w t b.
      done_counts _ _ _ (
        omega (arith, a.0, b.0, g.params.few),
        record { params = record { few = omega (arith, a.1, g.params.few); each = a.2 }; return_type = normalize_stored names t b.1 },
        refl,
      )))

  function_ends : (f : TraitFnDef) (o : Counted PortableSignature) (P : ℕ → PortableSignature → Type 0) → Counts o P
      → Ends Short (expected_function schema params f.name o) (λ p. P p.0 p.1)
  unfolding expected_function
  function_ends f too_large P h = ends.err_ends _ (omega arith)
  function_ends f (done v t) P h = ends.ensure_ends (not (poisoned_params t.params || poisoned_return t.return_type)) _ _ (omega arith) (λ e. ends.ok_ends (v, t) _ (h.holds v t refl))

  list_ends : (fs : List TraitFnDef) → All (GoodTraitFunction names) fs → Ends Short (expected_list schema params fs) (Signed names fs)
  unfolding expected_list
  list_ends [] h = ends.ok_ends (0, []) _ (record { visits = omega arith; each = tt; named = refl; counted = refl })
  list_ends (f ∷ fs) h =
      ends.then_ends (function_ends f (resolve_signature schema params f) _ (signature_counts f h.0)) (λ p a. ends.then_ends (list_ends fs h.1) (λ q b.
      ends.ok_ends _ _ (record {
        visits = omega (arith, a.0, b.visits);
        each = (a.1, b.each);
        named = ap₂ ◌∷◌ a.2 b.named;
        counted = ap suc b.counted;
      })))

pub expected_ends : (names strings : ℕ) (schema : CompiledSchema) → GoodSchema names strings schema → (trait : TraitDef) (impl : ImplDef) → GoodTrait names trait
    → GoodImpl names strings impl
    → Ends Short (expected_functions schema trait impl) (Signed names trait.functions)
unfolding expected_functions
expected_ends names strings schema s trait impl t i =
    ends.ensure_ends (eqb (length trait.type_params) (length impl.type_args)) _ _ (omega arith) (λ e.
    list_ends names strings schema s _ (view_good names trait.type_params impl.type_args i.type_args.each) trait.functions t.functions.each)
