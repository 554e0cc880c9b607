-- Projected functions: typed, and of a size that their stored words bound.
use Prim.Native.Nat.{ℕ, suc, ◌+◌, ◌*◌, ◌≤◌}
use mathlib.Core.Path.{◌≡◌, refl, ap}
use mathlib.Core.Bool.{Bool, true, false}
use mathlib.Core.List.{List, [], ◌∷◌, ◌++◌, map}
use mathlib.Core.Option.{Option, some}
use native.Mathlib.Omega.{arith}
use lib.ListN.{length, length-append}
use lib.Dec.{eqb}
use Rattle.rules.specs.Words.{all_different}
use Rattle.rules.specs.Syntax.{ResolvedType, run, FnBody, Param, ImplFnDef, MessageDef, ImplDef}
use Rattle.rules.specs.Types.{return_words}
use Rattle.rules.specs.Signatures.{PortableSignature}
use Rattle.rules.specs.Bodies.{PortableFunction, block_of, project_function}
use Rattle.rules.specs.Project.{find_function, project_list}
use Rattle.rules.specs.Output.{each, listed, param_words, signature_words, statement_words, function_words}
use Rattle.rules.specs.Good.{All, AllOption, Stored}
use Rattle.rules.specs.Exact.{optional, Few}
use Rattle.laws.specs.Runs.{stored_statement_words, body_words, GoodBody, GoodStatement}
use Rattle.laws.specs.DefinitionRuns.{typed_words, GoodParam, GoodMessage, GoodFunction, GoodImpl, impl_function_words}
use Rattle.rules.specs.Typed.{TypedParam, TypedSignature, TypedFunction}
use Rattle.laws_answers.proofs.Ends as ends
use Rattle.laws_answers.proofs.Ends.{Ends, Short}
use Rattle.laws_answers.specs.Bounds.{growth, signature_most}
use Rattle.laws_answers.proofs.Projected.{statements_end}
use Rattle.laws_answers.proofs.Sizes.{size, named_size, named_found, different_first}
use Rattle.laws_answers.proofs.Checked.{return_short, signature_ends}

-- what each bounds, all do together
pub each_length : {A : Type 0} (f : A → List ℕ) (m : ℕ) (xs : List A) → All (λ x. length (f x) ≤ m) xs → length (each f xs) ≤ m * length xs
unfolding each
each_length f m [] h = omega arith
each_length f m (x ∷ xs) h = omega (arith, h.0, each_length f m xs h.1, length-append (f x) (each f xs))

module _ (names : ℕ) where
  params_short : (ps : List (Param ResolvedType)) → All (TypedParam names) ps → All (λ p. length (param_words p) ≤ 65) ps
  unfolding param_words
  params_short [] h = tt
  params_short (p ∷ ps) h = (omega (arith, h.0.short), params_short ps h.1)

  pub signature_short : (name : ℕ) (ps : List (Param ResolvedType)) (t : Option ResolvedType) → Few 32 (TypedParam names) ps → AllOption (Stored names) t
      → length (signature_words name ps t) ≤ signature_most
  unfolding signature_words listed
  signature_short name ps t h g = omega (
    arith,
    each_length param_words 65 ps (params_short ps h.each),
    h.few,
    return_short names t g,
    length-append (listed param_words ps) (return_words t),
  )

module _ (names : ℕ) where
  -- a typed function against the stored one
  pub record Function (actual : ImplFnDef) (f : PortableFunction) : Type 0 where
    pub good : TypedFunction names f
    pub small : length (function_words f) ≤ 2148 + growth * size actual

  -- functions one by one
  pub record Functions (fs : List ImplFnDef) (ss : List PortableSignature) (gs : List PortableFunction) : Type 0 where
    pub good : All (TypedFunction names) gs
    pub counted : length gs ≡ length ss
    pub small : length (each function_words gs) ≤ 2148 * length ss + growth * named_size (map (λ s. s.name) ss) fs

-- a body's statements
block_ends : (names strings f : ℕ) (b : FnBody) → GoodBody names strings b
    → Ends Short (block_of f b) (λ ss. (length ss ≤ 256) × All (GoodStatement names strings) ss × (length (each stored_statement_words ss) ≤ length (body_words b)))
unfolding block_of body_words listed
block_ends names strings f FnBody.external g = ends.err_ends _ (omega arith)
block_ends names strings f (FnBody.block ss) g = ends.ok_ends ss _ (g.0, g.1, omega arith)

-- a message's fields are typed
fields_typed : (names : ℕ) (ps : List (Param ResolvedType)) → All (GoodParam names (Stored names)) ps → All (TypedParam names) ps
fields_typed names [] h = tt
fields_typed names (p ∷ ps) h = (h.0.ty, fields_typed names ps h.1)

-- an implementation's function holds its body's words
body_size : (f : ImplFnDef) → length (body_words f.body) ≤ size f
unfolding impl_function_words
body_size f =
    omega (
      arith,
      length-append (listed (typed_words run) f.params) (optional run f.return_type ++ body_words f.body),
      length-append (optional run f.return_type) (body_words f.body),
    )

module _ (names strings : ℕ) where
  pub function_ends : (actual : ImplFnDef) (expected : PortableSignature) (message : MessageDef) (impl : ImplDef)
      → GoodFunction names strings actual → TypedSignature names expected → GoodMessage names message → GoodImpl names strings impl
      → Ends Short (project_function actual expected message impl) (Function names actual)
  unfolding project_function function_words listed
  function_ends actual expected message impl a e m i =
      ends.then_ends (block_ends names strings actual.name actual.body a.body) (λ ss b.
      ends.then_ends (statements_end names strings expected.return_type e.return_type _
      (record { locals = e.params.each; fields = fields_typed names message.fields m.fields.each; self_type = i.target_type }) ss b.1) (λ ps p.
      ends.ok_ends _ _ (record {
        good = record { params = e.params; return_type = e.return_type; statements = record { few = omega (arith, p.few, b.0); each = p.good } };
        small = omega (
          arith,
          signature_short names expected.name expected.params expected.return_type e.params e.return_type,
          p.small,
          b.2,
          body_size actual,
          length-append (signature_words expected.name expected.params expected.return_type) (listed statement_words ps),
        );
      })))

  find_good : (x : ℕ) (fs : List ImplFnDef) → All (GoodFunction names strings) fs → AllOption (λ f. GoodFunction names strings f × (find_function x fs ≡ some f)) (find_function x fs)
  unfolding find_function
  find_good x [] h = tt
  find_good x (f ∷ fs) h = go (eqb x f.name) (find_good x fs h.1)
    where
      go : (b : Bool) → AllOption (λ g. GoodFunction names strings g × (find_function x fs ≡ some g)) (find_function x fs)
          → AllOption (λ g. GoodFunction names strings g × ((elim b as (λ _. Option ImplFnDef) [ true ↦ some f | false ↦ find_function x fs ]) ≡ some g)) (elim b as (λ _. Option ImplFnDef) [ true ↦ some f | false ↦ find_function x fs ])
      go true i = (h.0, refl)
      go false i = i

  pub list_ends : (impl : ImplDef) (message : MessageDef) → GoodImpl names strings impl → GoodMessage names message
      → (ss : List PortableSignature) → All (TypedSignature names) ss → all_different (map (λ s. s.name) ss) ≡ true → Ends Short (project_list impl message ss) (Functions names impl.functions ss)
  unfolding project_list each
  list_ends impl message i m [] h d = ends.ok_ends [] _ (record { good = tt; counted = refl; small = omega arith })
  list_ends impl message i m (s ∷ ss) h d =
      let different = different_first s.name (map (λ s. s.name) ss) d in
      ends.then_ends (ends.refuse_ends _ (find_function s.name impl.functions) _ (omega arith) (find_good s.name impl.functions i.functions.each)) (λ actual a.
      ends.then_ends (signature_ends names strings actual s a.0 h.0) (λ _ _.
      ends.then_ends (function_ends actual s message impl a.0 h.0 m i) (λ f p.
      ends.then_ends (list_ends impl message i m ss h.1 different.1) (λ fs q.
      ends.ok_ends _ _ (record {
        good = (p.good, q.good);
        counted = ap suc q.counted;
        small = omega (
          arith,
          p.small,
          q.small,
          length-append (function_words f) (each function_words fs),
          named_found s.name (map (λ s. s.name) ss) different.0 impl.functions actual a.1,
        );
      })))))
