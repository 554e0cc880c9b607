-- The whole projection by its steps. Assumes nothing.
use Prim.Native.Nat.{ℕ}
use mathlib.Core.Path.{◌≡◌, refl, sym, ap, ap₂, ◌∙◌}
use mathlib.Core.Bool.{Bool, true, false}
use mathlib.Core.List.{List, [], ◌∷◌, map}
use mathlib.Core.Option.{Option, none, some}
use native.Mathlib.Omega.{arith}
use lib.ListN.{length}
use lib.Dec.{eqb}
use borrow.Author.Tests.{eqb-true}
use Rattle.rules.specs.Syntax.{ResolvedType, MessageDef, TraitFnDef, TraitDef, ImplDef, CompiledSchema, Param}
use Rattle.rules.specs.Options.{then}
use Rattle.rules.specs.Substitute.{get, number, view}
use Rattle.rules.specs.Refusal.{Refusal, Result, ok, err, ◌>>=◌, ensure, or_refuse, refusal, with_detail}
use Rattle.rules.specs.Signatures.{PortableSignature, find_trait, expected_list, expected_functions}
use Rattle.rules.specs.Bodies.{PortableFunction}
use Rattle.rules.specs.Project.{as_message, target_message, no_repeat, no_stranger, project_list, project_impl}
use Rattle.rules.specs.Output.{functions_words, signatures_words}
use Rattle.answers.specs.declared.answer.Outcome.{Outcome}
use Rattle.answers.specs.Answers.{Comes}
use Rattle.answers.proofs.Calls.{comes_err, comes_ok}
use Rattle.project_outcome.specs.Outcomes.{ComesTo}
use Rattle.expected_functions.specs.Asked.{in_words}
use Rattle.project_outcome.proofs.Coming.{came_err, came_ok}
use Rattle.project_outcome.proofs.Passing.{both_then}
use Rattle.project_functions.specs.Steps.{list_words}
use Rattle.project_impl.specs.Steps.{tested_words, found_words, projected_words}
use Rattle.project_impl.specs.Asked.{Few}
use Rattle.project_functions.proofs.Resolved.{resolved, first, none_left}

-- expected signatures have their functions' names
pub same_names : (schema : CompiledSchema) (seen : List (Param ResolvedType)) (fs : List TraitFnDef) {v : ℕ} {ss : List PortableSignature} → expected_list schema seen fs ≡ ok (v, ss) → map (λ f. f.name) fs ≡ map (λ s. s.name) ss
same_names schema seen [] e = ap (map (λ (s : PortableSignature). s.name)) (sym (none_left schema seen e))
same_names schema seen (f ∷ fs) e =
    let d = first schema seen f fs e in
    ap₂ ◌∷◌ (ap (λ (s : PortableSignature). s.name) (sym (resolved schema seen f d.is).so)) (same_names schema seen fs d.others_is)
    ∙ ap (map (λ (s : PortableSignature). s.name)) (sym d.so)

-- signatures are expected only where type arguments are as many as type parameters
module _ (schema : CompiledSchema) (trait : TraitDef) (impl : ImplDef) where
  abbrev six : Bool → Result (ℕ × List PortableSignature)
  six b = ensure b (with_detail 6 trait.name (0 ∷ length trait.type_params ∷ length impl.type_args ∷ [])) >>= λ _. expected_list schema (view trait.type_params impl.type_args) trait.functions

  pub as_many : {p : ℕ × List PortableSignature} → expected_functions schema trait impl ≡ ok p → length trait.type_params ≡ length impl.type_args
  unfolding expected_functions ◌>>=◌ ensure
  as_many {p} e = go (eqb (length trait.type_params) (length impl.type_args)) refl e
    where
      go : (b : Bool) → eqb (length trait.type_params) (length impl.type_args) ≡ b → six b ≡ ok p → length trait.type_params ≡ length impl.type_args
      go true t h = eqb-true (length trait.type_params) (length impl.type_args) t
      go false t h = absurd (let z : ◌≡◌ {A = ℕ} 0 1 = cc in omega arith)

-- expected signatures by their words
pub words_err : (r : Result (ℕ × List PortableSignature)) {e : Refusal} → in_words r ≡ err e → r ≡ err e
unfolding ◌>>=◌
words_err (err x) {e} h = let m : x ≡ e = cc in ap err m
words_err (ok p) h = absurd (let z : ◌≡◌ {A = ℕ} 0 1 = cc in omega arith)

pub words_ok : (r : Result (ℕ × List PortableSignature)) {v : ℕ} {ws : List ℕ} → in_words r ≡ ok (v, ws) → (ss : List PortableSignature) × (r ≡ ok (v, ss))
unfolding ◌>>=◌
words_ok (err x) h = absurd (let z : ◌≡◌ {A = ℕ} 0 1 = cc in omega arith)
words_ok (ok p) {v} {ws} h = let m : ◌≡◌ {A = ℕ × List ℕ} (p.0, signatures_words p.1) (v, ws) = cc in (p.1, ap (λ (n : ℕ). ok (n, p.1)) (ap (λ (x : ℕ × List ℕ). x.0) m))

module _ (impl : ImplDef) (message : MessageDef) (ss : List PortableSignature) where
  abbrev strangers : Result (Unit {0})
  strangers = no_stranger (map (λ s. s.name) ss) impl.functions

  -- 9 and 10, then the functions
  pub tests_first : tested_words impl message ss ≡ ((no_repeat [] impl.functions >>= λ _. strangers) >>= λ _. list_words impl message ss)
  unfolding tested_words
  tests_first = both_then (no_repeat [] impl.functions) strangers (list_words impl message ss)

module _ (impl : ImplDef) (message : MessageDef) (schema : CompiledSchema) (trait : TraitDef) where
  abbrev after_expected : Result (ℕ × List PortableSignature) → Result (ℕ × List ℕ)
  after_expected r = r >>= λ p. tested_words impl message p.1 >>= λ ws. ok (p.0, ws)

  -- 6, 8, 7
  pub not_expected : {e : Refusal} → expected_functions schema trait impl ≡ err e → found_words impl message schema trait ≡ err e
  unfolding found_words ◌>>=◌
  not_expected q = ap after_expected q

  module _ {v : ℕ} {ss : List PortableSignature} (q : expected_functions schema trait impl ≡ ok (v, ss)) {old new : List ℕ} {r : Outcome} (t : ComesTo (tested_words impl message ss) (length old) 0 old new r) where
    abbrev with_visits : Result (List ℕ) → Result (ℕ × List ℕ)
    with_visits w = w >>= λ ws. ok (v, ws)

    by_words : {w : Result (List ℕ)} → tested_words impl message ss ≡ w → found_words impl message schema trait ≡ with_visits w
    unfolding found_words ◌>>=◌
    by_words e = ap after_expected q ∙ ap with_visits e

    pub found_refused : r.ok ≡ false → Comes (found_words impl message schema trait) old new r
    unfolding ◌>>=◌
    found_refused n = comes_err (by_words (came_err t n)) n refl

    pub found_goes : r.ok ≡ true → Few (found_words impl message schema trait) → {o : Outcome} → o.ok ≡ true → o.length ≡ r.length → o.visits ≡ v → Comes (found_words impl message schema trait) old new o
    unfolding ◌>>=◌
    found_goes y few {o} z e f =
        let c = came_ok t y in
        let is : found_words impl message schema trait ≡ ok (v, c.0) = by_words c.1 in
        let w = c.2.so (omega (arith, few v c.0 is)) in
        comes_ok is z f (record { place = e ∙ w.0; bytes = w.1 })

-- 5, by the target's row
module _ (schema : CompiledSchema) (impl : ImplDef) (trait : TraitDef) where
  abbrev after_message : Option MessageDef → Result (ℕ × List ℕ)
  after_message m = or_refuse m (refusal 5) >>= λ message. found_words impl message schema trait

  by_message : {m : Option MessageDef} → then (number impl.target_type) (λ n. then (get schema n) as_message) ≡ m → projected_words schema impl trait ≡ after_message m
  unfolding projected_words target_message
  by_message g = ap after_message g

  pub no_message : then (number impl.target_type) (λ n. then (get schema n) as_message) ≡ none → projected_words schema impl trait ≡ err (refusal 5)
  unfolding or_refuse ◌>>=◌
  no_message g = by_message g

  pub with_message : {message : MessageDef} → then (number impl.target_type) (λ n. then (get schema n) as_message) ≡ some message → projected_words schema impl trait ≡ found_words impl message schema trait
  unfolding or_refuse ◌>>=◌
  with_message g = by_message g

-- the rules' projection is the trait's, then these words
module _ (schema : CompiledSchema) (impl : ImplDef) where
  abbrev functions_of : Result (ℕ × List PortableFunction) → Result (ℕ × List ℕ)
  functions_of r = r >>= λ p. ok (p.0, functions_words p.1)

  abbrev after_tests : Result (Unit {0}) → Result (Unit {0}) → ℕ → Result (List PortableFunction) → Result (ℕ × List PortableFunction)
  after_tests a b v fs = a >>= λ _. b >>= λ _. fs >>= λ gs. ok (v, gs)

  abbrev rest : MessageDef → Result (ℕ × List PortableSignature) → Result (ℕ × List PortableFunction)
  rest message r = r >>= λ p. after_tests (no_repeat [] impl.functions) (no_stranger (map (λ s. s.name) p.1) impl.functions) p.0 (project_list impl message p.1)

  tests_o : (a b : Result (Unit {0})) (v : ℕ) (fs : Result (List PortableFunction)) → functions_of (after_tests a b v fs) ≡ ((a >>= λ _. b >>= λ _. fs >>= λ gs. ok (functions_words gs)) >>= λ ws. ok (v, ws))
  unfolding ◌>>=◌
  tests_o (err x) b v fs = refl
  tests_o (ok u) (err x) v fs = refl
  tests_o (ok u) (ok w) v (err x) = refl
  tests_o (ok u) (ok w) v (ok gs) = refl

  rest_o : (message : MessageDef) (r : Result (ℕ × List PortableSignature)) → functions_of (rest message r) ≡ (r >>= λ p. tested_words impl message p.1 >>= λ ws. ok (p.0, ws))
  unfolding ◌>>=◌ tested_words list_words
  rest_o message (err x) = refl
  rest_o message (ok p) = tests_o (no_repeat [] impl.functions) (no_stranger (map (λ s. s.name) p.1) impl.functions) p.0 (project_list impl message p.1)

  message_o : (trait : TraitDef) (m : Result MessageDef) → functions_of (m >>= λ message. rest message (expected_functions schema trait impl)) ≡ (m >>= λ message. found_words impl message schema trait)
  unfolding ◌>>=◌ found_words
  message_o trait (err x) = refl
  message_o trait (ok message) = rest_o message (expected_functions schema trait impl)

  trait_o : (t : Result TraitDef) → functions_of (t >>= λ trait. target_message schema impl >>= λ message. rest message (expected_functions schema trait impl)) ≡ (t >>= λ trait. projected_words schema impl trait)
  unfolding ◌>>=◌ projected_words
  trait_o (err x) = refl
  trait_o (ok trait) = message_o trait (target_message schema impl)

  pub behind_trait : (project_impl schema impl >>= λ p. ok (p.0, functions_words p.1)) ≡ (find_trait schema impl >>= λ trait. projected_words schema impl trait)
  unfolding project_impl
  behind_trait = trait_o (find_trait schema impl)
