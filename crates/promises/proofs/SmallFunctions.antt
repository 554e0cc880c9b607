-- The words of projected functions are small.
use Prim.Native.Nat.{ℕ, ◌<◌}
use mathlib.Core.Path.{◌≡◌}
use mathlib.Core.Bool.{Bool, true, false}
use mathlib.Core.List.{List, [], ◌∷◌, ◌++◌, map}
use mathlib.Core.Option.{Option, none, some}
use native.Mathlib.Omega.{arith}
use lib.Dec.{eqb}
use Rattle.rules.specs.Syntax.{ResolvedType, run, Param, FnBody, ImplFnDef, MessageDef, TraitDef, ImplDef, TypeDef, CompiledSchema}
use Rattle.rules.specs.Refusal.{ok}
use Rattle.rules.specs.Types.{return_words}
use Rattle.rules.specs.Options.{then}
use Rattle.rules.specs.Substitute.{get, number}
use Rattle.rules.specs.Signatures.{PortableSignature, as_trait, find_trait}
use Rattle.rules.specs.CheckSignature.{check_signature}
use Rattle.rules.specs.Bodies.{PortableFunction, block_of, project_function}
use Rattle.rules.specs.Project.{as_message, as_implementation, no_repeat, no_stranger, find_function, project_list, find_implementation, target_message, project_impl}
use Rattle.rules.specs.Output.{listed, param_words, signature_words, statement_words, function_words, functions_words}
use Rattle.rules.specs.Good.{All, AllOption}
use Rattle.laws.proofs.Each.{at_all, then_all, then_any}
use Rattle.rules.specs.Exact.{optional, Few}
use Rattle.laws.specs.Runs.{stored_statement_words, body_words}
use Rattle.laws.specs.DefinitionRuns.{typed_words, message_words, trait_words, impl_function_words, implementation_words}
use Rattle.rules.specs.Typed.{TypedFunction}
use Rattle.laws_answers.proofs.Ends as ends
use Rattle.laws_answers.proofs.Ends.{Ends, Any}
use Rattle.laws_answers.proofs.Erased.{any_ends}
use Rattle.promises.proofs.Small.{WORD, Small, all_both, small_append, small_left, small_right, small_listed, listed_small}
use Rattle.promises.proofs.SmallSchema.{SmallType, SmallParam, SmallDefinition, SmallSchema}
use Rattle.promises.proofs.SmallBodies.{SmallStored, SmallStatement, small_statements}
use Rattle.promises.proofs.SmallSignatures.{SmallSignature, small_signatures}

-- ---- written functions

pub record SmallFunction (f : PortableFunction) : Type 0 where
  pub name : f.name < WORD
  pub params : All SmallParam f.params
  pub return_type : AllOption SmallType f.return_type
  pub statements : All SmallStatement f.statements

param_small : (p : Param ResolvedType) → SmallParam p → Small (param_words p)
unfolding param_words
param_small p h = h

return_small : (t : Option ResolvedType) → AllOption SmallType t → Small (return_words t)
unfolding return_words
return_small none h = (omega arith, tt)
return_small (some t) h = (omega arith, h)

-- typed functions are few, and so are their parameters and statements
function_small : (names : ℕ) (f : PortableFunction) → TypedFunction names f → SmallFunction f → Small (function_words f)
unfolding function_words signature_words
function_small names f g h =
    let params = listed_small param_words SmallParam param_small f.params (omega (arith, g.params.few)) h.params in
    let statements = listed_small statement_words SmallStatement (λ s k. k) f.statements (omega (arith, g.statements.few)) h.statements in (
      h.name,
      small_append (listed param_words f.params ++ return_words f.return_type) (listed statement_words f.statements)
          (small_append (listed param_words f.params) (return_words f.return_type) params (return_small f.return_type h.return_type)) statements,
    )

pub functions_small : (names : ℕ) (fs : List PortableFunction) → Few 64 (TypedFunction names) fs → All SmallFunction fs → Small (functions_words fs)
unfolding functions_words
functions_small names fs g h =
    listed_small function_words (λ f. Small (function_words f)) (λ f k. k) fs (omega (arith, g.few))
    (all_both (TypedFunction names) SmallFunction (λ f. Small (function_words f)) (function_small names) fs g.each h)

-- ---- from stored functions

abbrev SmallActual : ImplFnDef → Type 0
SmallActual f = Small (impl_function_words f)

abbrev SmallTrait : TraitDef → Type 0
SmallTrait t = Small (trait_words t)

abbrev SmallMessage : MessageDef → Type 0
SmallMessage m = All SmallParam m.fields

record SmallImpl (i : ImplDef) : Type 0 where
  target_type : SmallType i.target_type
  type_args : All SmallType i.type_args
  functions : All SmallActual i.functions

body_small : (f : ImplFnDef) → SmallActual f → Small (body_words f.body)
unfolding impl_function_words
body_small f h =
    small_right (optional run f.return_type) (body_words f.body) (small_right (listed (typed_words run) f.params) (optional run f.return_type ++ body_words f.body) h.1)

block_small : (f : ℕ) (b : FnBody) → Small (body_words b) → Ends Any (block_of f b) (All SmallStored)
unfolding block_of body_words
block_small f FnBody.external h = ends.err_ends _ tt
block_small f (FnBody.block ss) h = ends.ok_ends ss (All SmallStored) (small_listed stored_statement_words ss h.1)

small_projected : (f : ImplFnDef) (s : PortableSignature) (m : MessageDef) (i : ImplDef) → SmallActual f → SmallSignature s → SmallMessage m → SmallType i.target_type
    → Ends Any (project_function f s m i) SmallFunction
unfolding project_function
small_projected f s m i a h fields own =
    ends.then_ends (block_small f.name f.body (body_small f a)) (λ ss b.
    ends.then_ends (small_statements s.return_type h.return_type _ (record { locals = h.params; fields = fields; self_type = own }) ss b) (λ ps p.
    ends.ok_ends _ SmallFunction (record { name = h.name; params = h.params; return_type = h.return_type; statements = p })))

small_find : (x : ℕ) (fs : List ImplFnDef) → All SmallActual fs → AllOption SmallActual (find_function x fs)
unfolding find_function
small_find x [] h = tt
small_find x (f ∷ fs) h = go (eqb x f.name) (small_find x fs h.1)
  where
    go : (b : Bool) → AllOption SmallActual (find_function x fs) → AllOption SmallActual (elim b as (λ _. Option ImplFnDef) [ true ↦ some f | false ↦ find_function x fs ])
    go true ih = h.0
    go false ih = ih

small_list : (i : ImplDef) (m : MessageDef) → SmallImpl i → SmallMessage m → (ss : List PortableSignature) → All SmallSignature ss → Ends Any (project_list i m ss) (All SmallFunction)
unfolding project_list
small_list i m l t [] h = ends.ok_ends [] _ tt
small_list i m l t (s ∷ ss) h =
    ends.then_ends (ends.refuse_ends SmallActual (find_function s.name i.functions) _ tt (small_find s.name i.functions l.functions)) (λ f a.
    ends.then_ends (any_ends (check_signature f s)) (λ _ _.
    ends.then_ends (small_projected f s m i a h.0 t l.target_type) (λ g p.
    ends.then_ends (small_list i m l t ss h.1) (λ gs q. ends.ok_ends _ (All SmallFunction) (p, q)))))

-- ---- from a schema's rows

message_small : (d : TypeDef) → SmallDefinition d → AllOption SmallMessage (as_message d)
unfolding as_message message_words
message_small TypeDef.other h = tt
message_small (TypeDef.message m) h = small_listed (typed_words run) m.fields h
message_small (TypeDef.generic_alias a) h = tt
message_small (TypeDef.trait t) h = tt
message_small (TypeDef.implementation i) h = tt

trait_small : (d : TypeDef) → SmallDefinition d → AllOption SmallTrait (as_trait d)
unfolding as_trait
trait_small TypeDef.other h = tt
trait_small (TypeDef.message m) h = tt
trait_small (TypeDef.generic_alias a) h = tt
trait_small (TypeDef.trait t) h = h
trait_small (TypeDef.implementation i) h = tt

impl_small : (i : ImplDef) → Small (implementation_words i) → SmallImpl i
unfolding implementation_words
impl_small i h =
    let types = listed run i.type_args in
    let functions = listed impl_function_words i.functions in
    let tail : Small (types ++ functions) = small_right (run i.target_type) (types ++ functions) h.1.1 in
    record {
      target_type = small_left (run i.target_type) (types ++ functions) h.1.1;
      type_args = small_listed run i.type_args (small_left types functions tail);
      functions = small_listed impl_function_words i.functions (small_right types functions tail);
    }

implementation_small : (d : TypeDef) → SmallDefinition d → AllOption SmallImpl (as_implementation d)
unfolding as_implementation
implementation_small TypeDef.other h = tt
implementation_small (TypeDef.message m) h = tt
implementation_small (TypeDef.generic_alias a) h = tt
implementation_small (TypeDef.trait t) h = tt
implementation_small (TypeDef.implementation i) h = impl_small i h

module _ (schema : CompiledSchema) (small : SmallSchema schema) where
  row_small : {A : Type 0} (P : A → Type 0) (is : TypeDef → Option A) → ((d : TypeDef) → SmallDefinition d → AllOption P (is d)) → (n : ℕ) → AllOption P (then (get schema n) is)
  row_small P is k n = then_all SmallDefinition P (get schema n) is (at_all SmallDefinition schema.definitions n small.definitions) k

  implementation_found : (row : ℕ) → Ends Any (find_implementation schema row) SmallImpl
  unfolding find_implementation
  implementation_found row = ends.refuse_ends SmallImpl _ _ tt (row_small SmallImpl as_implementation implementation_small row)

  trait_found : (i : ImplDef) → Ends Any (find_trait schema i) SmallTrait
  unfolding find_trait
  trait_found i = ends.refuse_ends SmallTrait _ _ tt (row_small SmallTrait as_trait trait_small i.trait_id)

  message_found : (i : ImplDef) → Ends Any (target_message schema i) SmallMessage
  unfolding target_message
  message_found i = ends.refuse_ends SmallMessage _ _ tt (then_any SmallMessage (number i.target_type) _ (row_small SmallMessage as_message message_small))

  impl_projected : (i : ImplDef) → SmallImpl i → Ends Any (project_impl schema i) (λ p. All SmallFunction p.1)
  unfolding project_impl
  impl_projected i h =
      ends.then_ends (trait_found i) (λ t a. ends.then_ends (message_found i) (λ m b.
      ends.then_ends (small_signatures schema small t i a h.type_args) (λ e c.
      ends.then_ends (any_ends (no_repeat [] i.functions)) (λ _ _. ends.then_ends (any_ends (no_stranger (map (λ s. s.name) e.1) i.functions)) (λ _ _.
      ends.then_ends (small_list i m h b e.1 c) (λ fs p. ends.ok_ends _ (λ p. All SmallFunction p.1) p))))))

  pub small_functions : (row : ℕ) (i : ImplDef) (p : ℕ × List PortableFunction) → find_implementation schema row ≡ ok i → project_impl schema i ≡ ok p → All SmallFunction p.1
  small_functions row i p is_i q = (impl_projected i ((implementation_found row).gives i is_i)).gives p q
