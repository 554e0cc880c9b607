-- Parts of a signature are small: visits and words. Assumes nothing.
use Prim.Native.Nat.{ℕ, suc, ◌*◌, ◌≤◌}
use mathlib.Core.Path.{◌≡◌, refl, ap}
use mathlib.Core.Bool.{Bool, true, false}
use mathlib.Core.List.{List, [], ◌∷◌}
use mathlib.Core.Option.{Option, none, some}
use native.Mathlib.Omega.{arith}
use lib.ListN.{length, length-append}
use Rattle.rules.specs.Syntax.{ResolvedType, TypeExpr, TraitReturn, TraitFnDef, CompiledSchema, Param, run}
use Rattle.rules.specs.Types.{normalize_return, return_words, same_type, VOID}
use Rattle.rules.specs.Signatures.{resolve_params, resolve_return, resolve_signature}
use Rattle.rules.specs.Output.{each, listed, param_words, signature_words}
use Rattle.laws.proofs.Counts.{Counts, done_counts, after_counts}
use Rattle.laws.proofs.Substitution.{substitute_accepted}
use Rattle.laws.specs.DefinitionRuns.{GoodReturn, GoodTraitFunction}
use Rattle.expected_signature.specs.Parts.{resolve_param, normal_words, words_of}

normal_short : (o : Option ResolvedType) → length (return_words o) ≤ 65 → length (normal_words o) ≤ 65
unfolding normalize_return return_words
normal_short none h = h
normal_short (some t) h = go (same_type t VOID)
  where
    go : (b : Bool) → length (return_words (elim b as (λ _. Option ResolvedType) [ true ↦ none | false ↦ some t ])) ≤ 65
    go true = omega arith
    go false = h

module _ (schema : CompiledSchema) (ps : List (Param ResolvedType)) where
  pub param_small : (p : Param TypeExpr) → Counts (resolve_param schema ps p) (λ v t. (v ≤ 1024) × (length (param_words t) ≤ 65))
  unfolding resolve_param param_words
  param_small p = after_counts (substitute_accepted schema ps p.ty) (λ v t a. done_counts _ v _ (a.few, omega (arith, a.short)))

  pub params_small : (qs : List (Param TypeExpr))
      → Counts (resolve_params schema ps qs) (λ v ts. (v ≤ 1024 * length qs) × (length (each param_words ts) ≤ 65 * length qs) × (length ts ≡ length qs))
  unfolding resolve_params each param_words
  params_small [] = done_counts _ 0 [] (omega arith, omega arith, refl)
  params_small (q ∷ qs) =
      after_counts (substitute_accepted schema ps q.ty) (λ v t a. after_counts (params_small qs) (λ w ts b.
      done_counts _ _ _ (omega (arith, a.few, b.0), omega (arith, a.short, b.1, length-append (run t) (each param_words ts)), ap suc b.2)))

  pub return_small : (names : ℕ) (t : TraitReturn) → GoodReturn names t → Counts (resolve_return schema ps t) (λ v o. (v ≤ 1024) × (length (normal_words o) ≤ 65))
  unfolding resolve_return return_words
  return_small names TraitReturn.no_return g = done_counts _ 0 none (omega arith, normal_short none (omega arith))
  return_small names (TraitReturn.resolved t) g = done_counts _ 0 (some t) (omega arith, normal_short (some t) (omega (arith, g.short)))
  return_small names (TraitReturn.expression e) g =
      after_counts (substitute_accepted schema ps e) (λ v t a. done_counts _ v (some t) (a.few, normal_short (some t) (omega (arith, a.short))))

  pub signature_small : (names : ℕ) (f : TraitFnDef) → GoodTraitFunction names f → Counts (resolve_signature schema ps f) (λ v s. (v ≤ 33792) × (length (words_of s) ≤ 2148))
  unfolding resolve_signature signature_words listed
  signature_small names f g =
      after_counts (params_small f.params) (λ v ts a. after_counts (return_small names f.return_type g.return_type) (λ w t b.
      done_counts _ _ _ (
        omega (arith, a.0, b.0, g.params.few),
        omega (arith, a.1, b.1, g.params.few, length-append (each param_words ts) (normal_words t)),
      )))
