-- Expected signatures of small words.
use Prim.Native.Nat.{ℕ, ◌<◌}
use mathlib.Core.Path.{refl}
use mathlib.Core.Bool.{Bool, true, false}
use mathlib.Core.List.{List, [], ◌∷◌}
use mathlib.Core.Option.{Option, none, some}
use lib.ListN.{length}
use lib.Dec.{eqb}
use Rattle.rules.specs.Syntax.{ResolvedType, TypeExpr, expr_run, Param, TraitReturn, TraitFnDef, TraitDef, ImplDef, CompiledSchema}
use Rattle.rules.specs.Types.{VOID, same_type, normalize_return}
use Rattle.rules.specs.Substitute.{Counted, too_large, done, view, substitute_type}
use Rattle.rules.specs.Signatures.{PortableSignature, resolve_params, resolve_return, resolve_signature, expected_function, expected_list, expected_functions}
use Rattle.rules.specs.Output.{listed}
use Rattle.rules.specs.Good.{All, AllOption}
use Rattle.laws.specs.DefinitionRuns.{own, typed_words, trait_return_words, trait_function_words, trait_words}
use Rattle.laws.proofs.Counts.{Counts, done_counts, after_counts}
use Rattle.laws_answers.proofs.Ends as ends
use Rattle.laws_answers.proofs.Ends.{Ends, Any}
use Rattle.promises.proofs.Small.{WORD, Small, small_left, small_right, small_listed}
use Rattle.promises.proofs.SmallSchema.{SmallType, SmallParam, SmallSchema}
use Rattle.promises.proofs.Substituted.{small_substituted}

pub record SmallSignature (s : PortableSignature) : Type 0 where
  pub name : s.name < WORD
  pub params : All SmallParam s.params
  pub return_type : AllOption SmallType s.return_type

small_normal : (o : Option ResolvedType) → AllOption SmallType o → AllOption SmallType (normalize_return o)
unfolding normalize_return
small_normal none h = tt
small_normal (some t) h = go (same_type t VOID)
  where
    go : (b : Bool) → AllOption SmallType (elim b as (λ _. Option ResolvedType) [ true ↦ none | false ↦ some t ])
    go true = tt
    go false = h

small_view : (xs : List ℕ) (ts : List ResolvedType) → All SmallType ts → All (λ p. SmallType p.ty) (view xs ts)
unfolding view
small_view [] ts h = tt
small_view (x ∷ xs) [] h = tt
small_view (x ∷ xs) (t ∷ ts) h = (h.0, small_view xs ts h.1)

module _ (schema : CompiledSchema) (small : SmallSchema schema) where
  module _ (params : List (Param ResolvedType)) (arguments : All (λ p. SmallType p.ty) params) where
    substituted : (e : TypeExpr) → Small (expr_run e) → Counts (substitute_type schema params e) (λ v t. SmallType t)
    substituted e h = record { holds = λ v t q. ((small_substituted schema small params e arguments h).holds v t q).1 }

    small_params : (ps : List (Param TypeExpr)) → All (λ p. Small (typed_words expr_run p)) ps → Counts (resolve_params schema params ps) (λ v ts. All SmallParam ts)
    unfolding resolve_params
    small_params [] h = done_counts _ 0 [] tt
    small_params (p ∷ ps) h =
        after_counts (substituted p.ty h.0.1) (λ v t a. after_counts (small_params ps h.1) (λ w ts b. done_counts _ _ _ ((h.0.0, a), b)))

    small_return : (t : TraitReturn) → Small (trait_return_words t) → Counts (resolve_return schema params t) (λ v o. AllOption SmallType o)
    unfolding resolve_return trait_return_words
    small_return TraitReturn.no_return h = done_counts _ 0 none tt
    small_return (TraitReturn.resolved t) h = done_counts _ 0 (some t) h.1
    small_return (TraitReturn.expression e) h = after_counts (substituted e h.1) (λ v t a. done_counts _ v (some t) a)

    small_signature : (f : TraitFnDef) → Small (trait_function_words f) → Counts (resolve_signature schema params f) (λ v s. SmallSignature s)
    unfolding resolve_signature trait_function_words
    small_signature f h =
        let ps = listed (typed_words expr_run) f.params in
        let words = trait_return_words f.return_type in
        after_counts (small_params f.params (small_listed (typed_words expr_run) f.params (small_left ps words h.1))) (λ v ts a.
        after_counts (small_return f.return_type (small_right ps words h.1)) (λ w t b. done_counts _ _ _ (record { name = h.0; params = a; return_type = small_normal t b })))

    small_expected : (f : ℕ) (o : Counted PortableSignature) → Counts o (λ v s. SmallSignature s) → Ends Any (expected_function schema params f o) (λ p. SmallSignature p.1)
    unfolding expected_function
    small_expected f too_large h = ends.err_ends _ tt
    small_expected f (done v s) h = ends.ensure_ends _ _ _ tt (λ _. ends.ok_ends _ (λ p. SmallSignature p.1) (h.holds v s refl))

    small_list : (fs : List TraitFnDef) → All (λ f. Small (trait_function_words f)) fs → Ends Any (expected_list schema params fs) (λ p. All SmallSignature p.1)
    unfolding expected_list
    small_list [] h = ends.ok_ends _ (λ p. All SmallSignature p.1) tt
    small_list (f ∷ fs) h =
        ends.then_ends (small_expected f.name _ (small_signature f h.0)) (λ s a. ends.then_ends (small_list fs h.1) (λ ss b.
        ends.ok_ends _ (λ p. All SmallSignature p.1) (a, b)))

  -- what a trait asks for
  pub small_signatures : (trait : TraitDef) (impl : ImplDef) → Small (trait_words trait) → All SmallType impl.type_args
      → Ends Any (expected_functions schema trait impl) (λ p. All SmallSignature p.1)
  unfolding expected_functions trait_words
  small_signatures trait impl h types =
      let functions = small_listed trait_function_words trait.functions (small_right (listed own trait.type_params) (listed trait_function_words trait.functions) h.1) in
      ends.ensure_ends (eqb (length trait.type_params) (length impl.type_args)) _ _ tt (λ _.
      small_list (view trait.type_params impl.type_args) (small_view trait.type_params impl.type_args types) trait.functions functions)
