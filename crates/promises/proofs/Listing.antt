-- Each typed function comes from the function of its name, and nothing else is listed.
use Prim.Native.Nat.{ℕ}
use mathlib.Core.Path.{◌≡◌, refl, sym, ap₂, ◌∙◌}
use mathlib.Core.Bool.{Bool, true, false}
use mathlib.Core.List.{List, [], ◌∷◌, map}
use mathlib.Core.Option.{Option, none, some}
use lib.Dec.{eqb}
use borrow.Author.Tests.{eqb-true}
use Rattle.rules.specs.Words.{member}
use Rattle.rules.specs.Syntax.{ImplFnDef, ImplDef, MessageDef, CompiledSchema}
use Rattle.rules.specs.Refusal.{ok, or_refuse}
use Rattle.rules.specs.Signatures.{PortableSignature}
use Rattle.rules.specs.CheckSignature.{check_signature}
use Rattle.rules.specs.Bodies.{PortableFunction, block_of, project_statements, project_function}
use Rattle.rules.specs.Project.{no_stranger, find_function, project_list, project_impl}
use Rattle.rules.proofs.Clash.{clash}
use Rattle.rules.specs.Good.{All}
use Rattle.laws_answers.proofs.Ends as ends
use Rattle.laws_answers.proofs.Ends.{Ends, Any}
use Rattle.laws_answers.proofs.Erased.{any_ends}
use Rattle.laws_answers.proofs.ErasedBodies.{Comes, project_erased}
use Rattle.promises.specs.Bare.{SameFunction, SameBodies}
use Rattle.promises.proofs.Results.{ensured}
use Rattle.promises.proofs.Parts.{parts}

-- typed functions have the names that were expected, in that order
abbrev names : List PortableFunction → List ℕ
names fs = map (λ f. f.name) fs

names_expected : (i : ImplDef) (m : MessageDef) (ss : List PortableSignature) → Ends Any (project_list i m ss) (λ fs. names fs ≡ map (λ s. s.name) ss)
unfolding project_list project_function
names_expected i m [] = ends.ok_ends [] _ refl
names_expected i m (s ∷ ss) =
    ends.then_ends (any_ends (or_refuse (find_function s.name i.functions) _)) (λ f _.
    ends.then_ends (any_ends (check_signature f s)) (λ _ _.
    ends.then_ends (ends.then_ends (any_ends (block_of f.name f.body)) (λ b _. ends.then_ends (any_ends (project_statements s.return_type _ b)) (λ ps _. ends.ok_ends _ (λ g. g.name ≡ s.name) refl))) (λ g p.
    ends.then_ends (names_expected i m ss) (λ gs q. ends.ok_ends _ _ (ap₂ ◌∷◌ p q)))))

-- a function of no known name is not found
known_found : (known : List ℕ) (fs : List ImplFnDef) (x : ℕ) (f : ImplFnDef) → no_stranger known fs ≡ ok tt → find_function x fs ≡ some f → member x known ≡ true
unfolding no_stranger find_function
known_found known [] x f q h = clash (cc)
known_found known (g ∷ fs) x f q h = go (eqb x g.name) refl h (ensured _ _ _ _ q) (known_found known fs x f)
  where
    go : (b : Bool) → eqb x g.name ≡ b → (elim b [ true ↦ some g | false ↦ find_function x fs ]) ≡ some f → (member g.name known ≡ true) × (no_stranger known fs ≡ ok tt)
        → (no_stranger known fs ≡ ok tt → find_function x fs ≡ some f → member x known ≡ true) → member x known ≡ true
    go true e h q ih = rw (eqb-true x g.name e) q.0
    go false e h q ih = ih q.1 h

-- a name is listed or not
module _ (i j : ImplDef) (x : ℕ) where
  picked : (fs : List PortableFunction) → All (Comes i.functions) fs → All (Comes j.functions) fs → member x (names fs) ≡ true
      → SameFunction (find_function x i.functions) (find_function x j.functions)
  unfolding member
  picked [] a b q = clash (cc)
  picked (f ∷ fs) a b q = go (eqb x f.name) refl q (picked fs a.1 b.1)
    where
      go : (t : Bool) → eqb x f.name ≡ t → (elim t [ true ↦ true | false ↦ member x (names fs) ]) ≡ true
          → (member x (names fs) ≡ true → SameFunction (find_function x i.functions) (find_function x j.functions))
          → SameFunction (find_function x i.functions) (find_function x j.functions)
      go true e q ih =
          rw (eqb-true x f.name e, a.0.found, b.0.found)
          (record { left = a.0.statements; right = b.0.statements; is_left = a.0.block; is_right = b.0.block; same = sym a.0.same ∙ b.0.same })
      go false e q ih = ih q

  not_listed : (known : List ℕ) → no_stranger known i.functions ≡ ok tt → no_stranger known j.functions ≡ ok tt → member x known ≡ false
      → SameFunction (find_function x i.functions) (find_function x j.functions)
  not_listed known p q e = go (find_function x i.functions) (find_function x j.functions) refl refl
    where
      go : (o p : Option ImplFnDef) → find_function x i.functions ≡ o → find_function x j.functions ≡ p → SameFunction o p
      go none none g h = tt
      go none (some f) g h = let k = known_found known j.functions x f q h in clash (cc)
      go (some f) o g h = let k = known_found known i.functions x f p g in clash (cc)

-- implementations with the same typed functions have the same bodies
pub same_bodies : (schema : CompiledSchema) (i j : ImplDef) (v w : ℕ) (fs : List PortableFunction)
    → project_impl schema i ≡ ok (v, fs) → project_impl schema j ≡ ok (w, fs) → SameBodies i j
same_bodies schema i j v w fs p q =
    let a = parts schema i _ p in
    let b = parts schema j _ q in
    let s : no_stranger (names fs) i.functions ≡ ok tt = rw ((names_expected i a.message a.expected).gives fs a.projected) a.no_strangers in
    let t : no_stranger (names fs) j.functions ≡ ok tt = rw ((names_expected j b.message b.expected).gives fs b.projected) b.no_strangers in
    record {
      once_left = a.no_repeats;
      once_right = b.no_repeats;
      same = λ x. go x (member x (names fs)) refl ((project_erased schema i).gives (v, fs) p) ((project_erased schema j).gives (w, fs) q) s t;
    }
  where
    go : (x : ℕ) (m : Bool) → member x (names fs) ≡ m → All (Comes i.functions) fs → All (Comes j.functions) fs
        → no_stranger (names fs) i.functions ≡ ok tt → no_stranger (names fs) j.functions ≡ ok tt
        → SameFunction (find_function x i.functions) (find_function x j.functions)
    go x true e a b s t = picked i j x fs a b e
    go x false e a b s t = not_listed i j x _ s t e
