-- The two calls on a good schema: typed output of bounded size and visits, and short details.
use Prim.Native.Nat.{ℕ, ◌≤◌}
use mathlib.Core.Path.{ap, ◌∙◌, ◌≡◌, refl}
use mathlib.Core.Bool.{not}
use mathlib.Core.List.{List, [], ◌∷◌, ◌++◌, map}
use mathlib.Core.Option.{Option}
use native.Mathlib.Omega.{arith}
use lib.ListN.{length, get_elem?, length-append}
use Rattle.rules.specs.Words.{member, all_different}
use Rattle.rules.specs.Syntax.{run, ImplFnDef, ImplDef, TypeDef, CompiledSchema}
use Rattle.rules.specs.Options.{then}
use Rattle.rules.specs.Substitute.{get, number}
use Rattle.rules.specs.Signatures.{as_trait, find_trait, PortableSignature}
use Rattle.rules.specs.Bodies.{PortableFunction}
use Rattle.rules.specs.Project.{as_message, as_implementation, no_repeat, no_stranger, find_implementation, target_message, project_impl, expected_signatures}
use Rattle.rules.specs.Output.{each, listed, functions_words, signature_words, signatures_words}
use Rattle.rules.specs.Answer.{project_call, signatures_call}
use Rattle.rules.specs.Good.{All, AllOption}
use Rattle.laws.proofs.Each.{at_all, then_all, then_any}
use Rattle.rules.specs.Exact.{Few}
use Rattle.laws.specs.DefinitionRuns.{impl_function_words, implementation_words, GoodMessage, GoodTrait, GoodImpl}
use Rattle.laws.specs.GoodSchema.{most_words, GoodDefinition, GoodSchema}
use Rattle.rules.specs.Typed.{TypedFunction, TypedSignature}
use Rattle.laws_answers.proofs.Ends as ends
use Rattle.laws_answers.proofs.Ends.{Ends, Short}
use Rattle.laws_answers.proofs.Expected.{expected_ends}
use Rattle.laws_answers.proofs.Sizes.{named_size_most}
use Rattle.laws_answers.specs.Bounds.{signature_most, most_visits, most_output, most_signatures}
use Rattle.laws_answers.proofs.Functions.{list_ends, each_length, signature_short}

-- over the number of name rows
module _ (names : ℕ) where
  -- accepted typed functions and their visits
  pub record Projection (p : ℕ × List PortableFunction) : Type 0 where
    pub visits : p.0 ≤ most_visits
    pub good : Few 64 (TypedFunction names) p.1
    pub small : length (functions_words p.1) ≤ most_output

  -- accepted signatures and their visits
  pub record Expectation (p : ℕ × List PortableSignature) : Type 0 where
    pub visits : p.0 ≤ most_visits
    pub good : Few 64 (TypedSignature names) p.1
    pub small : length (signatures_words p.1) ≤ most_signatures

  -- the words of accepted typed functions
  pub record Written (p : ℕ × List ℕ) : Type 0 where
    pub functions : List PortableFunction
    pub are : p.1 ≡ functions_words functions
    pub good : Few 64 (TypedFunction names) functions
    pub visits : p.0 ≤ most_visits
    pub small : length p.1 ≤ most_output

  -- the words of accepted signatures
  pub record Listed (p : ℕ × List ℕ) : Type 0 where
    pub signatures : List PortableSignature
    pub are : p.1 ≡ signatures_words signatures
    pub good : Few 64 (TypedSignature names) signatures
    pub visits : p.0 ≤ most_visits
    pub small : length p.1 ≤ most_signatures

no_repeat_ends : (seen : List ℕ) (fs : List ImplFnDef) → Ends Short (no_repeat seen fs) (λ _. Unit {0})
unfolding no_repeat
no_repeat_ends seen [] = ends.ok_ends tt _ tt
no_repeat_ends seen (f ∷ fs) = ends.ensure_ends (not (member f.name seen)) _ _ (omega arith) (λ _. no_repeat_ends (f.name ∷ seen) fs)

no_stranger_ends : (known : List ℕ) (fs : List ImplFnDef) → Ends Short (no_stranger known fs) (λ _. Unit {0})
unfolding no_stranger
no_stranger_ends known [] = ends.ok_ends tt _ tt
no_stranger_ends known (f ∷ fs) = ends.ensure_ends (member f.name known) _ _ (omega arith) (λ _. no_stranger_ends known fs)

functions_inside : (i : ImplDef) → length (each impl_function_words i.functions) ≤ length (implementation_words i)
unfolding implementation_words listed
functions_inside i =
    omega (
      arith,
      length-append (run i.target_type) (listed run i.type_args ++ listed impl_function_words i.functions),
      length-append (listed run i.type_args) (listed impl_function_words i.functions),
    )

module _ (names strings : ℕ) where
  abbrev pub Impl : ImplDef → Type 0
  Impl i = GoodImpl names strings i × (length (implementation_words i) ≤ most_words)

  implementation_good : (d : TypeDef) → GoodDefinition names strings d → AllOption Impl (as_implementation d)
  unfolding as_implementation
  implementation_good TypeDef.other g = tt
  implementation_good (TypeDef.message m) g = tt
  implementation_good (TypeDef.generic_alias a) g = tt
  implementation_good (TypeDef.trait t) g = tt
  implementation_good (TypeDef.implementation i) g = g

  trait_good : (d : TypeDef) → GoodDefinition names strings d → AllOption (GoodTrait names) (as_trait d)
  unfolding as_trait
  trait_good TypeDef.other g = tt
  trait_good (TypeDef.message m) g = tt
  trait_good (TypeDef.generic_alias a) g = tt
  trait_good (TypeDef.trait t) g = g
  trait_good (TypeDef.implementation i) g = tt

  message_good : (d : TypeDef) → GoodDefinition names strings d → AllOption (GoodMessage names) (as_message d)
  unfolding as_message
  message_good TypeDef.other g = tt
  message_good (TypeDef.message m) g = g
  message_good (TypeDef.generic_alias a) g = tt
  message_good (TypeDef.trait t) g = tt
  message_good (TypeDef.implementation i) g = tt

  module _ (schema : CompiledSchema) (s : GoodSchema names strings schema) where
    -- a row of a kind
    row_good : {A : Type 0} (P : A → Type 0) (is : TypeDef → Option A) → ((d : TypeDef) → GoodDefinition names strings d → AllOption P (is d)) → (n : ℕ)
        → AllOption P (then (get schema n) is)
    row_good P is good n = then_all (GoodDefinition names strings) P (get_elem? schema.definitions n) is (at_all (GoodDefinition names strings) schema.definitions n s.definitions_good) good

    implementation_ends : (row : ℕ) → Ends Short (find_implementation schema row) Impl
    unfolding find_implementation
    implementation_ends row = ends.refuse_ends Impl _ _ (omega arith) (row_good Impl as_implementation implementation_good row)

    trait_ends : (impl : ImplDef) → Ends Short (find_trait schema impl) (GoodTrait names)
    unfolding find_trait
    trait_ends impl = ends.refuse_ends (GoodTrait names) _ _ (omega arith) (row_good (GoodTrait names) as_trait trait_good impl.trait_id)

    message_ends : (impl : ImplDef) → Ends Short (target_message schema impl) (GoodMessage names)
    unfolding target_message
    message_ends impl = ends.refuse_ends (GoodMessage names) _ _ (omega arith)
        (then_any (GoodMessage names) (number impl.target_type) _ (λ n. row_good (GoodMessage names) as_message message_good n))

    pub project_ends : (impl : ImplDef) → Impl impl → Ends Short (project_impl schema impl) (Projection names)
    unfolding project_impl functions_words listed
    project_ends impl i =
        ends.then_ends (trait_ends impl) (λ trait t.
        ends.then_ends (message_ends impl) (λ message m.
        ends.then_ends (expected_ends names strings schema s trait impl t i.0) (λ e x.
        ends.then_ends (no_repeat_ends [] impl.functions) (λ _ _.
        ends.then_ends (no_stranger_ends (map (λ s. s.name) e.1) impl.functions) (λ _ _.
        ends.then_ends (list_ends names strings impl message i.0 m e.1 x.each (ap all_different x.named ∙ t.different)) (λ fs p.
        ends.ok_ends _ _ (record {
          visits = omega (arith, x.visits, t.functions.few);
          good = record { few = omega (arith, p.counted, x.counted, t.functions.few); each = p.good };
          small = omega (arith, p.small, x.counted, t.functions.few, named_size_most (map (λ s. s.name) e.1) impl.functions, functions_inside impl, i.1);
        })))))))

    signatures_short : (ss : List PortableSignature) → All (TypedSignature names) ss
        → All (λ (t : PortableSignature). length (signature_words t.name t.params t.return_type) ≤ signature_most) ss
    signatures_short [] h = tt
    signatures_short (t ∷ ss) h = (signature_short names t.name t.params t.return_type h.0.params h.0.return_type, signatures_short ss h.1)

    pub expectation_ends : (impl : ImplDef) → Impl impl → Ends Short (expected_signatures schema impl) (Expectation names)
    unfolding expected_signatures signatures_words listed
    expectation_ends impl i =
        ends.then_ends (trait_ends impl) (λ trait t. ends.so (expected_ends names strings schema s trait impl t i.0) (λ p x. record {
          visits = omega (arith, x.visits, t.functions.few);
          good = record { few = omega (arith, x.counted, t.functions.few); each = x.each };
          small = omega (
            arith,
            x.counted,
            t.functions.few,
            each_length (λ (t : PortableSignature). signature_words t.name t.params t.return_type) signature_most p.1 (signatures_short p.1 x.each),
          );
        }))

    pub project_call_ends : (row : ℕ) → Ends Short (project_call row schema) (Written names)
    unfolding project_call
    project_call_ends row = ends.then_ends (implementation_ends row) (λ impl i. ends.then_ends (project_ends impl i) (λ p h.
        ends.ok_ends _ _ (record { functions = p.1; are = refl; good = h.good; visits = h.visits; small = h.small })))

    pub signatures_call_ends : (row : ℕ) → Ends Short (signatures_call row schema) (Listed names)
    unfolding signatures_call
    signatures_call_ends row = ends.then_ends (implementation_ends row) (λ impl i. ends.then_ends (expectation_ends impl i) (λ p h.
        ends.ok_ends _ _ (record { signatures = p.1; are = refl; good = h.good; visits = h.visits; small = h.small })))
