-- A trait's functions with the type parameters in view, where its signatures are expected. Assumes nothing.
use Prim.Native.Nat.{ℕ, ◌+◌, ◌<◌, ◌≤◌}
use mathlib.Core.Path.{◌≡◌, refl, sym, ap, subst, ◌∙◌}
use mathlib.Core.List.{List, [], ◌++◌, map}
use native.Mathlib.Omega.{arith}
use native.Mathlib.Nat.{min-le_left}
use lib.ListN.{length, get_or, take, length-take}
use lib.Seq.{length-take-le}
use Rattle.rules.specs.Syntax.{MessageDef, ImplFnDef, ImplDef}
use Rattle.rules.specs.Refusal.{Result, ◌>>=◌}
use Rattle.rules.specs.Substitute.{view}
use Rattle.rules.specs.Signatures.{expected_functions}
use Rattle.rules.specs.Project.{no_repeat, no_stranger}
use Rattle.image_layout.specs.declared.Layout.{Layout}
use Rattle.image_layout.specs.Rows.{Inside}
use Rattle.image_layout.specs.Open.{pool_words}
use Rattle.subst_params.specs.Views.{Views}
use Rattle.impl_rows.specs.Given.{Given}
use Rattle.answers.specs.declared.answer.Outcome.{Outcome}
use Rattle.answers.proofs.Calls.{Accepted}
use Rattle.answers.proofs.Passes.{front}
use Rattle.project_outcome.specs.Outcomes.{Passes, ComesTo}
use Rattle.expected_signature.proofs.Places.{pool_small}
use Rattle.expected_functions.specs.Asked.{in_words, Asked}
use Rattle.expected_functions.proofs.Views as views
use Rattle.impl_functions.specs.Functions.{FunctionsHere, Placed, AllAskedHere}
use Rattle.project_impl.specs.Asked.{Wanted}
use Rattle.project_functions.specs.declared.parts.Parts.{Parts}
use Rattle.project_functions.specs.Asked.{Behind, Stand, All}
use Rattle.project_impl.proofs.WholeLaws.{same_names, as_many, words_ok}

module _ {l : Layout} {start types : ℕ} (w : Wanted l start types) {n : ℕ} (is : n ≡ get_or (pool_words l) (start + 1) 0) where
  pub equal : n ≡ get_or (pool_words l) types 0
  equal = views.wants_is w.asked is refl ∙ as_many w.asked.schema w.asked.trait w.asked.impl w.is ∙ sym (views.has_is w.asked is refl)

  pub few : n ≤ 8
  few = views.few w.asked is refl

  abbrev pub given : Given l (start + 1 + 1) (types + 1) n
  given = views.given_of w.asked is refl equal

  -- the trait's functions stand behind its type parameters
  pub asked_at : AllAskedHere l w.asked.trait.functions (start + 1 + 1 + n) w.asked.trait_end
  asked_at =
      let p = w.asked.trait_at.parts in
      subst (λ (k : ℕ). AllAskedHere l w.asked.trait.functions k w.asked.trait_end)
      (omega (arith, views.names_end (pool_words l) l.names.rows w.asked.trait.type_params (start + 1 + 1) p.type_params_end p.type_params_at.2, views.wants_is w.asked is refl)) p.functions_at

  abbrev pub all : {table : List ℕ} → Views l.names.rows table 0 (view w.asked.trait.type_params w.asked.impl.type_args) → All l table (start + 1 + 1 + n)
  all v = record {
    here = views.functions_of w.asked is refl equal v;
    visits = w.visits;
    signatures = w.signatures;
    is = sym (views.as_many w.asked is refl equal) ∙ w.is;
  }

  -- tests against the trait's names are tests against the signatures'
  pub against_names : {r : Outcome} → Passes (no_repeat [] w.asked.impl.functions >>= λ _. no_stranger (map (λ f. f.name) w.asked.trait.functions) w.asked.impl.functions) r
      → Passes (no_repeat [] w.asked.impl.functions >>= λ _. no_stranger (map (λ s. s.name) w.signatures) w.asked.impl.functions) r
  against_names {r} p = subst (λ (xs : List ℕ). Passes (no_repeat [] w.asked.impl.functions >>= λ _. no_stranger xs w.asked.impl.functions) r)
      (same_names w.asked.schema (view w.asked.trait.type_params w.asked.impl.type_args) w.asked.trait.functions (sym (views.as_many w.asked is refl equal) ∙ w.is)) p

pub start_small : {l : Layout} {start types : ℕ} → Inside l → Asked l start types → start < 65536
start_small i a = pool_small i a.trait_at.parts.name_at.inside

pub types_small : {l : Layout} {start types : ℕ} → Inside l → Asked l start types → types < 65536
types_small i a = pool_small i a.types_at.0.inside

-- accepted signatures are wanted
abbrev pub wanted : {l : Layout} {start types : ℕ} (a : Asked l start types) {old new : List ℕ} {r : Outcome} → Accepted (in_words (expected_functions a.schema a.trait a.impl)) old new r → Wanted l start types
wanted a k = let s = words_ok (expected_functions a.schema a.trait a.impl) k.is in record { asked = a; visits = k.visits; signatures = s.0; is = s.1 }

-- the functions stand where the type arguments end, and the table has their places
pub stand : {l : Layout} {impl : ImplDef} {message : MessageDef} {functions : ℕ} {parts : Parts} → Behind l impl message functions parts.fields parts.target
    → {k : ℕ} → k ≡ functions → {table : List ℕ} → ((fs : List ImplFnDef) (n : ℕ) → FunctionsHere l fs k n → Placed l fs (take (length fs) table))
    → {x count : ℕ} → x ≡ get_or (pool_words l) k 0 → (x ≤ 64 → count ≡ x) → Stand l (take count table) parts impl message
stand {l} {impl} b {k} e {table} placed {x} {count} is few =
    let here = subst (λ (j : ℕ). FunctionsHere l impl.functions j b.functions_end) (sym e) b.functions_at in
    let many : x ≡ length impl.functions = is ∙ here.0.is in
    record {
      functions_at = subst (λ (j : ℕ). Placed l impl.functions (take j table)) (sym (few (omega (arith, here.1, many)) ∙ many)) (placed impl.functions b.functions_end here);
      fields_end = b.fields_end;
      fields_at = b.fields_at;
      target_end = b.target_end;
      target_at = b.target_at;
    }

-- a lent table of at most 64
pub few_places : (xs : List ℕ) {n : ℕ} → n ≤ 64 → length (take n xs) ≤ 64
few_places xs {n} h = omega (arith, length-take n xs, min-le_left n (length xs))

-- a table beside the first of 64 places
pub own_here : (places table : List ℕ) → length places ≡ 64 → {n : ℕ} → n ≤ 64 → {xs : List ℕ} → take (length (take n places)) table ≡ xs → take n table ≡ xs
own_here places table e {n} h q = ap (λ (k : ℕ). take k table) (sym (length-take-le n places (omega arith))) ∙ q

-- none of the output was lent before
pub untouched_to : (xs output : List ℕ) {part : Result (List ℕ)} {new : List ℕ} {r : Outcome} → length xs ≡ 0 → ComesTo part (length (xs ++ output)) 0 (xs ++ output) new r → ComesTo part (length output) 0 output new r
untouched_to xs output {part} {new} {r} e c = subst (λ (o : List ℕ). ComesTo part (length o) 0 o new r) (front xs output e) c
