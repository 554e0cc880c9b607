-- Outputs of accepted projections: typed functions, which their words tell, and of an image of bytes their bytes.
use Prim.Native.Nat.{ℕ, suc}
use mathlib.Core.Path.{◌≡◌, refl, sym, ap, ap₂, subst, ◌∙◌}
use mathlib.Core.List.{List, [], ◌∷◌, ◌++◌, append-nil}
use native.Mathlib.Omega.{arith}
use lib.ListN.{length}
use Rattle.rules.specs.Words.{words, bytes_of}
use Rattle.rules.specs.Syntax.{ImplDef, TypeDef, CompiledSchema}
use Rattle.rules.specs.Refusal.{ok}
use Rattle.rules.specs.Substitute.{get}
use Rattle.rules.specs.Bodies.{PortableFunction}
use Rattle.rules.specs.Project.{as_implementation, find_implementation}
use Rattle.rules.specs.Output.{functions_words}
use Rattle.words.proofs.Words.{word4_le}
use Rattle.rules.specs.Good.{AllOption, Below}
use Rattle.laws.proofs.Each.{at_all, then_all}
use Rattle.rules.specs.Exact.{Few}
use Rattle.laws.specs.GoodSchema.{GoodDefinition, GoodSchema}
use Rattle.laws.proofs.Schema.{readable_good}
use Rattle.rules.specs.Typed.{TypedFunction}
use Rattle.laws.proofs.MoreNames.{functions_prefix_free}
use Rattle.laws_answers.proofs.Calls.{Impl, project_ends}
use Rattle.promises.specs.Projects.{Bytes, Projects}
use Rattle.promises.proofs.Results.{found}
use Rattle.promises.proofs.Small.{Small}
use Rattle.promises.proofs.ReadSmall.{readable_small}
use Rattle.promises.proofs.SmallFunctions.{small_functions, functions_small}

-- an implementation's row in a good schema
implementation_good : (names strings : ℕ) (d : TypeDef) → GoodDefinition names strings d → AllOption (Impl names strings) (as_implementation d)
unfolding as_implementation
implementation_good names strings TypeDef.other g = tt
implementation_good names strings (TypeDef.message m) g = tt
implementation_good names strings (TypeDef.generic_alias a) g = tt
implementation_good names strings (TypeDef.trait t) g = tt
implementation_good names strings (TypeDef.implementation i) g = g

found_good : (names strings : ℕ) (schema : CompiledSchema) → GoodSchema names strings schema → (row : ℕ) (i : ImplDef) → find_implementation schema row ≡ ok i → Impl names strings i
unfolding find_implementation
found_good names strings schema s row i q =
    subst (AllOption (Impl names strings)) (found _ _ _ q)
    (then_all (GoodDefinition names strings) (Impl names strings) (get schema row) as_implementation
    (at_all (GoodDefinition names strings) schema.definitions row s.definitions_good) (implementation_good names strings))

module _ {image : List ℕ} {row : ℕ} {impl : ImplDef} {fs : List PortableFunction} (p : Projects image row impl fs) where
  abbrev names : ℕ
  names = length p.schema.names

  typed : Few 64 (TypedFunction names) fs
  typed =
      let g = readable_good image p.schema p.is_schema in
      let strings = length p.schema.strings in
      ((project_ends names strings p.schema g impl (found_good names strings p.schema g row impl p.is_impl)).gives (p.visits, fs) p.is_projected).good

  small : Below 256 image → Small (functions_words fs)
  small b = functions_small names fs typed (small_functions p.schema (readable_small image b p.schema p.is_schema) row impl (p.visits, fs) p.is_impl p.is_projected)

bytes_below : (xs : List ℕ) → Bytes xs → Below 256 xs
bytes_below [] h = tt
bytes_below (x ∷ xs) h = (h 0, bytes_below xs (λ i. h (suc i)))

-- words from their bytes, alone and before other bytes
words_again : (ws : List ℕ) → Small ws → words (bytes_of ws) ≡ ws
unfolding words bytes_of
words_again [] h = refl
words_again (w ∷ ws) h = ap₂ ◌∷◌ (word4_le w (omega (arith, h.0))) (words_again ws h.1)

words_before : (ws rest : List ℕ) → Small ws → words (bytes_of ws ++ rest) ≡ ws ++ words rest
unfolding words bytes_of
words_before [] rest h = refl
words_before (w ∷ ws) rest h = ap₂ ◌∷◌ (word4_le w (omega (arith, h.0))) (words_before ws rest h.1)

module _ {image image' : List ℕ} {m n : ℕ} {i j : ImplDef} {fs gs : List PortableFunction} (p : Projects image m i fs) (q : Projects image' n j gs) where
  -- words that begin others are of the same functions
  pub same_functions : (rest : List ℕ) → functions_words fs ++ rest ≡ functions_words gs → fs ≡ gs
  same_functions rest e = (functions_prefix_free (names p) (names q) fs gs rest [] (typed p) (typed q) (e ∙ sym (append-nil (functions_words gs)))).0

  -- and so are bytes
  pub same_from_bytes : Bytes image → Bytes image' → (rest : List ℕ) → bytes_of (functions_words fs) ++ rest ≡ bytes_of (functions_words gs) → fs ≡ gs
  same_from_bytes b c rest e =
      same_functions (words rest)
      (sym (words_before (functions_words fs) rest (small p (bytes_below image b))) ∙ ap words e ∙ words_again (functions_words gs) (small q (bytes_below image' c)))
