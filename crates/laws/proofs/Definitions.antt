-- Definitions in the pool: their words read back to them and nothing else does.
use Prim.Native.Nat.{ℕ}
use mathlib.Core.Path.{◌≡◌, refl, ap, ap₂}
use mathlib.Core.List.{List, ◌∷◌, ◌++◌}
use native.Mathlib.Omega.{arith}
use lib.Dec.{eqb}
use borrow.Author.Tests.{eqb-true, eqb-false}
use Rattle.rules.proofs.Exact.{few_exact, below_exact, maybe_exact}
use Rattle.rules.specs.Syntax.{TraitReturn}
use Rattle.rules.specs.Reader.{Reader}
use Rattle.rules.specs.ReadTypes.{param}
use Rattle.rules.specs.ReadDefinitions.{message, generic_alias, trait_return, trait_function, trait, impl_function, implementation}
use Rattle.rules.specs.Exact.{Reads, Exact}
use Rattle.rules.proofs.ReadBack.{give_reads, then_reads, end_reads, last_reads, word_reads, rule_reads, below_then}
use Rattle.rules.proofs.Gives as gives
use Rattle.rules.proofs.Types.{type_exact}
use Rattle.laws.proofs.TypeExprs.{type_expr_exact}
use Rattle.laws.proofs.Statements.{body_exact}
use Rattle.laws.specs.DefinitionRuns.{own, typed_words, message_words, generic_alias_words, trait_return_words, trait_function_words, trait_words, impl_function_words, implementation_words, GoodParam, GoodMessage, GoodAlias, GoodReturn, GoodTraitFunction, GoodTrait, GoodFunction, GoodImpl}

module _ (names : ℕ) where
  pub param_exact : {A : Type 0} {r : Reader A} {words : A → List ℕ} {Good : A → Type 0} → Exact r words Good → Exact (param names r) (typed_words words) (GoodParam names Good)
  unfolding param
  param_exact e = record {
    reads = λ p g. below_then _ g.name (last_reads _ (e.reads p.ty g.ty));
    gives = gives.below_then (λ n l. gives.last_gives _ e.gives (λ t ws h. record { is = ap (λ (l : List ℕ). n ∷ l) h.is; good = record { name = l; ty = h.good } }));
  }

  pub message_exact : Exact (message names) message_words (GoodMessage names)
  unfolding message message_words
  message_exact =
      let fields = few_exact (param_exact (type_exact names)) 256 in
      record {
        reads = λ m g. last_reads _ (fields.reads m.fields g.fields);
        gives = gives.last_gives _ fields.gives (λ fs ws h. record { is = h.is; good = record { fields = h.good } });
      }

  pub generic_alias_exact : Exact (generic_alias names) generic_alias_words (GoodAlias names)
  unfolding generic_alias generic_alias_words
  generic_alias_exact =
      let params = few_exact (below_exact names) 8 in
      let target = type_expr_exact names in
      record {
        reads = λ a g. then_reads _ (params.reads a.type_params g.type_params) (last_reads _ (target.reads a.target_type g.target_type));
        gives = gives.then_gives params.gives (λ ps vs h. gives.last_gives _ target.gives (λ t ws i.
            record { is = ap₂ ◌++◌ h.is i.is; good = record { type_params = h.good; target_type = i.good } }));
      }

  trait_return_reads : (t : TraitReturn) → GoodReturn names t → Reads (trait_return names) (trait_return_words t) t
  unfolding trait_return trait_return_words
  trait_return_reads TraitReturn.no_return g = below_then _ (omega arith) (give_reads _)
  trait_return_reads (TraitReturn.resolved t) g = below_then _ (omega arith) (last_reads _ ((type_exact names).reads t g))
  trait_return_reads (TraitReturn.expression e) g = below_then _ (omega arith) (last_reads _ ((type_expr_exact names).reads e g))

  pub trait_return_exact : Exact (trait_return names) trait_return_words (GoodReturn names)
  unfolding trait_return trait_return_words
  trait_return_exact = record {
    reads = trait_return_reads;
    gives = gives.below_then (λ c l. gives.cond_gives (eqb c 0)
        (λ e. gives.give_gives _ _ (record { is = ap own (eqb-true c 0 e); good = tt }))
        (λ a. gives.cond_gives (eqb c 1)
        (λ e. gives.last_gives _ (type_exact names).gives (λ t ws h. record { is = ap₂ ◌∷◌ (eqb-true c 1 e) h.is; good = h.good }))
        (λ b. let two : c ≡ 2 = omega (arith, eqb-false c 0 a, eqb-false c 1 b) in
        gives.last_gives _ (type_expr_exact names).gives (λ t ws h. record { is = ap₂ ◌∷◌ two h.is; good = h.good }))));
  }

  pub trait_function_exact : Exact (trait_function names) trait_function_words (GoodTraitFunction names)
  unfolding trait_function trait_function_words
  trait_function_exact =
      let params = few_exact (param_exact (type_expr_exact names)) 32 in
      record {
        reads = λ f g. below_then _ g.name (then_reads _ (params.reads f.params g.params) (last_reads _ (trait_return_reads f.return_type g.return_type)));
        gives = gives.below_then (λ n l. gives.then_gives params.gives (λ ps vs h. gives.last_gives _ trait_return_exact.gives (λ t ws i.
            record { is = ap (λ (l : List ℕ). n ∷ l) (ap₂ ◌++◌ h.is i.is); good = record { name = l; params = h.good; return_type = i.good } })));
      }

  pub trait_exact : Exact (trait names) trait_words (GoodTrait names)
  unfolding trait trait_words
  trait_exact =
      let params = few_exact (below_exact names) 8 in
      let functions = few_exact trait_function_exact 64 in
      record {
        reads = λ t g. below_then _ g.name (then_reads _ (params.reads t.type_params g.type_params)
            (end_reads _ (functions.reads t.functions g.functions) (rule_reads _ _ g.different (give_reads _))));
        gives = gives.below_then (λ n l. gives.then_gives params.gives (λ ps vs h. gives.end_gives _ functions.gives (λ fs ws i.
            gives.rule_then _ _ (λ e. gives.give_gives _ _ (
              refl,
              record {
                is = ap (λ (l : List ℕ). n ∷ l) (ap₂ ◌++◌ h.is i.is);
                good = record { name = l; type_params = h.good; functions = i.good; different = e };
              },
            )))));
      }

-- over the number of string rows besides
module _ (names strings : ℕ) where
  pub impl_function_exact : Exact (impl_function names strings) impl_function_words (GoodFunction names strings)
  unfolding impl_function impl_function_words
  impl_function_exact =
      let params = few_exact (param_exact names (type_exact names)) 32 in
      let returns = maybe_exact (type_exact names) in
      record {
        reads = λ f g. below_then _ g.name (then_reads _ (params.reads f.params g.params) (then_reads _ (returns.reads f.return_type g.return_type)
            (last_reads _ ((body_exact names strings).reads f.body g.body))));
        gives = gives.below_then (λ n l. gives.then_gives params.gives (λ ps us h. gives.then_gives returns.gives (λ t vs i.
            gives.last_gives _ (body_exact names strings).gives (λ b ws j.
            record {
              is = ap (λ (l : List ℕ). n ∷ l) (ap₂ ◌++◌ h.is (ap₂ ◌++◌ i.is j.is));
              good = record { name = l; params = h.good; return_type = i.good; body = j.good };
            }))));
      }

  pub implementation_exact : Exact (implementation names strings) implementation_words (GoodImpl names strings)
  unfolding implementation implementation_words
  implementation_exact =
      let target = type_exact names in
      let types = few_exact (type_exact names) 8 in
      let functions = few_exact impl_function_exact 64 in
      record {
        reads = λ i g. word_reads _ (below_then _ g.trait_name (then_reads _ (target.reads i.target_type g.target_type)
            (then_reads _ (types.reads i.type_args g.type_args) (last_reads _ (functions.reads i.functions g.functions)))));
        gives = gives.word_then (λ id. gives.below_then (λ n l. gives.then_gives target.gives (λ t us h. gives.then_gives types.gives (λ ts vs i.
            gives.last_gives _ functions.gives (λ fs ws j.
            record {
              is = ap (λ (l : List ℕ). id ∷ n ∷ l) (ap₂ ◌++◌ h.is (ap₂ ◌++◌ i.is j.is));
              good = record { trait_name = l; target_type = h.good; type_args = i.good; functions = j.good };
            })))));
      }
