-- The projection by its steps. Assumes nothing.
use Prim.Native.Nat.{ℕ}
use mathlib.Core.Path.{◌≡◌, refl, sym, ap, ◌∙◌}
use mathlib.Core.Bool.{Bool, true, false}
use mathlib.Core.List.{List, [], ◌∷◌, ◌++◌, append-nil, append_assoc}
use mathlib.Core.Option.{Option, none, some}
use native.Mathlib.Omega.{arith}
use lib.ListN.{length}
use lib.Dec.{eqb}
use borrow.Author.Tests.{eqb-true}
use Rattle.rules.specs.Syntax.{MessageDef, ImplFnDef, ImplDef, Statement}
use Rattle.rules.specs.Refusal.{Refusal, Result, ok, err, ◌>>=◌, or_refuse, in_function}
use Rattle.rules.specs.Signatures.{PortableSignature}
use Rattle.rules.specs.CheckSignature.{check_signature}
use Rattle.rules.specs.Infer.{FunctionContext}
use Rattle.rules.specs.Bodies.{PortableStatement, PortableFunction, block_of, project_statements, project_function}
use Rattle.rules.specs.Project.{find_function, project_list}
use Rattle.rules.specs.Output.{each, listed, signature_words, statement_words, function_words, functions_words}
use Rattle.project_function.specs.Made.{body_words_of}
use Rattle.project_outcome.proofs.Coming.{behind}
use Rattle.project_functions.specs.Steps.{project_one, one_words, list_words}

-- the function that was found has the name
pub found_name : (x : ℕ) (fs : List ImplFnDef) {f : ImplFnDef} → find_function x fs ≡ some f → x ≡ f.name
unfolding find_function
found_name x [] e = absurd (let z : ◌≡◌ {A = ℕ} 0 1 = cc in omega arith)
found_name x (g ∷ fs) {f} e = by_test (eqb x g.name) refl e (λ q. found_name x fs q)
  where
    by_test : (b : Bool) → eqb x g.name ≡ b → (elim b as (λ _. Option ImplFnDef) [ true ↦ some g | false ↦ find_function x fs ]) ≡ some f → (find_function x fs ≡ some f → x ≡ f.name) → x ≡ f.name
    by_test true t h k = let m : g ≡ f = cc in eqb-true x g.name t ∙ ap (λ (a : ImplFnDef). a.name) m
    by_test false t h k = k h

-- the context of a function's body
abbrev pub context : ImplDef → MessageDef → PortableSignature → ImplFnDef → FunctionContext
context impl message s f = record { function = f.name; locals = s.params; fields = message.fields; self_type = impl.target_type }

module _ (impl : ImplDef) (message : MessageDef) (s : PortableSignature) where
  abbrev after_found : Option ImplFnDef → Result PortableFunction
  after_found o = or_refuse o (in_function 11 s.name) >>= λ a. check_signature a s >>= λ _. project_function a s message impl

  -- 11
  pub one_missing : find_function s.name impl.functions ≡ none → one_words impl message s ≡ err (in_function 11 s.name)
  unfolding one_words project_one or_refuse ◌>>=◌
  one_missing e = ap (λ (o : Option ImplFnDef). after_found o >>= λ f. ok (function_words f)) e

  module _ {f : ImplFnDef} (e : find_function s.name impl.functions ≡ some f) where
    abbrev after_check : Result (Unit {0}) → Result (List ℕ)
    after_check c = (c >>= λ _. project_function f s message impl) >>= λ f. ok (function_words f)

    by_check : {c : Result (Unit {0})} → check_signature f s ≡ c → one_words impl message s ≡ after_check c
    unfolding one_words project_one or_refuse ◌>>=◌
    by_check q = ap (λ (o : Option ImplFnDef). after_found o >>= λ f. ok (function_words f)) e ∙ ap after_check q

    -- its signature's refusal
    pub one_refused : {r : Refusal} → check_signature f s ≡ err r → one_words impl message s ≡ err r
    unfolding ◌>>=◌
    one_refused q = by_check q

    abbrev statements : Result (List Statement) → Result (List PortableStatement)
    statements b = b >>= λ ss. project_statements s.return_type (context impl message s f) ss

    body_o : (r : Result (List Statement)) → ((r >>= λ ss. project_statements s.return_type (context impl message s f) ss >>= λ ps.
        ok (record { name = s.name; params = s.params; return_type = s.return_type; statements = ps })) >>= λ f. ok (function_words f))
        ≡ behind (signature_words s.name s.params s.return_type) (r >>= λ ss. project_statements s.return_type (context impl message s f) ss >>= λ ps. ok (listed statement_words ps))
    unfolding ◌>>=◌ behind function_words
    body_o (err x) = refl
    body_o (ok ss) = statements_o (project_statements s.return_type (context impl message s f) ss)
      where
        statements_o : (r : Result (List PortableStatement)) → ((r >>= λ ps. ok (record { name = s.name; params = s.params; return_type = s.return_type; statements = ps })) >>= λ f. ok (function_words f))
            ≡ behind (signature_words s.name s.params s.return_type) (r >>= λ ps. ok (listed statement_words ps))
        statements_o (err x) = refl
        statements_o (ok ps) = refl

    -- its signature's words, and its body's behind them
    pub one_goes : check_signature f s ≡ ok tt → one_words impl message s ≡ behind (signature_words s.name s.params s.return_type) (body_words_of (context impl message s f) s.return_type f.body)
    unfolding ◌>>=◌ project_function body_words_of
    one_goes q = by_check q ∙ body_o (block_of f.name f.body)

  -- a list by its first
  module _ (ss : List PortableSignature) where
    abbrev rest : PortableFunction → Result (List PortableFunction)
    rest f = project_list impl message ss >>= λ fs. ok (f ∷ fs)

    checked_o : (c : Result (Unit {0})) (p : Result PortableFunction) → (c >>= λ _. p >>= rest) ≡ ((c >>= λ _. p) >>= rest)
    unfolding ◌>>=◌
    checked_o (err x) p = refl
    checked_o (ok u) p = refl

    found_o : (o : Option ImplFnDef) → (or_refuse o (in_function 11 s.name) >>= λ a. check_signature a s >>= λ _. project_function a s message impl >>= rest) ≡ (after_found o >>= rest)
    unfolding or_refuse ◌>>=◌
    found_o none = refl
    found_o (some a) = checked_o (check_signature a s) (project_function a s message impl)

    pub list_step : project_list impl message (s ∷ ss) ≡ (project_one impl message s >>= rest)
    unfolding project_list project_one
    list_step = found_o (find_function s.name impl.functions)

    pub list_refused : {e : Refusal} → one_words impl message s ≡ err e → project_list impl message (s ∷ ss) ≡ err e
    unfolding one_words ◌>>=◌
    list_refused {e} q = list_step ∙ go (project_one impl message s) q
      where
        go : (r : Result PortableFunction) → (r >>= λ f. ok (function_words f)) ≡ err e → (r >>= rest) ≡ err e
        go (err x) h = let m : x ≡ e = cc in ap err m
        go (ok f) h = absurd (let z : ◌≡◌ {A = ℕ} 0 1 = cc in omega arith)

    -- one is made
    pub list_more : {ws : List ℕ} → one_words impl message s ≡ ok ws → (f : PortableFunction) × (ws ≡ function_words f) × (project_list impl message (s ∷ ss) ≡ rest f)
    unfolding one_words ◌>>=◌
    list_more {ws} q = go (project_one impl message s) refl q
      where
        go : (r : Result PortableFunction) → project_one impl message s ≡ r → (r >>= λ f. ok (function_words f)) ≡ ok ws
            → (f : PortableFunction) × (ws ≡ function_words f) × (project_list impl message (s ∷ ss) ≡ rest f)
        go (err x) p h = absurd (let z : ◌≡◌ {A = ℕ} 0 1 = cc in omega arith)
        go (ok f) p h = (f, cc, list_step ∙ ap (λ (r : Result PortableFunction). r >>= rest) p)

-- some made already
unfoldable pub prepend : List PortableFunction → Result (List PortableFunction) → Result (List PortableFunction)
prepend made r = r >>= λ fs. ok (made ++ fs)

pub prepend_none : (r : Result (List PortableFunction)) → prepend [] r ≡ r
unfolding prepend ◌>>=◌
prepend_none (err e) = refl
prepend_none (ok fs) = refl

pub prepend_err : (made : List PortableFunction) (e : Refusal) → prepend made (err e) ≡ err e
unfolding prepend ◌>>=◌
prepend_err made e = refl

pub prepend_more : (made : List PortableFunction) (f : PortableFunction) (r : Result (List PortableFunction)) → prepend made (r >>= λ fs. ok (f ∷ fs)) ≡ prepend (made ++ (f ∷ [])) r
unfolding prepend ◌>>=◌
prepend_more made f (err e) = refl
prepend_more made f (ok fs) = ap ok (sym (append_assoc made (f ∷ []) fs))

module _ (impl : ImplDef) (message : MessageDef) (ss : List PortableSignature) (made : List PortableFunction) where
  -- none is left
  pub list_done : project_list impl message ss ≡ prepend made (project_list impl message []) → list_words impl message ss ≡ ok (length made ∷ each function_words made)
  unfolding list_words project_list prepend ◌>>=◌ functions_words listed
  list_done e = ap (λ (r : Result (List PortableFunction)). r >>= λ fs. ok (functions_words fs)) (e ∙ ap ok (append-nil made))

  pub list_stopped : {e : Refusal} → project_list impl message ss ≡ err e → list_words impl message ss ≡ err e
  unfolding list_words ◌>>=◌
  list_stopped q = ap (λ (r : Result (List PortableFunction)). r >>= λ fs. ok (functions_words fs)) q
