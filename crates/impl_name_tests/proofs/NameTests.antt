-- Tests of functions by their names: those that are left decide. Assumes nothing.
use Prim.Native.Nat.{ℕ, ◌+◌, ◌<◌, ◌≤◌}
use mathlib.Core.Path.{◌≡◌, refl, sym, ap, subst, ◌∙◌}
use mathlib.Core.Bool.{Bool, true, false}
use mathlib.Core.List.{List, [], ◌∷◌, ◌++◌}
use lib.ListN.{length, get_or, take}
use native.Mathlib.Omega.{arith}
use native.Mathlib.Numerals.{add-one}
use lib.Seq.{take-suc}
use Rattle.rules.specs.Words.{member}
use Rattle.rules.specs.Syntax.{ImplFnDef, TraitFnDef}
use Rattle.rules.specs.Refusal.{Result, in_function}
use Rattle.rules.specs.Project.{no_repeat, no_stranger}
use Rattle.image_layout.specs.declared.Layout.{Layout}
use Rattle.image_layout.specs.Open.{pool_words}
use Rattle.pool_traits.specs.Different.{names_of}
use Rattle.answers.specs.declared.answer.Outcome.{Outcome}
use Rattle.answers.specs.Refusals.{refusal_of}
use Rattle.project_outcome.specs.Outcomes.{PassesAgrees, Passes}
use Rattle.impl_functions.specs.Functions.{EachAt, FunctionHere, AllAskedHere}
use Rattle.impl_functions.proofs.PlaceTable.{Rest, turned, ended, passed}
use Rattle.impl_functions.proofs.NameTables.{own_names}
use Rattle.impl_name_tests.proofs.Members.{repeat_seen, repeat_new, stranger_known, stranger_found}

-- one more from the front
take_one : (xs : List ℕ) (i : ℕ) → i < length xs → take (i + 1) xs ≡ take i xs ++ (get_or xs i 0 ∷ [])
take_one xs i b = ap (λ (k : ℕ). take k xs) (add-one i) ∙ take-suc xs i 0 b

passes : {test last : Result (Unit {0})} {r : Outcome} → last ≡ test → PassesAgrees last r → Passes test r
passes {r = r} e a = record { is = subst (λ (t : Result (Unit {0})). PassesAgrees t r) e a }

-- the names in a table of those that a trait asks for
pub asked_names : (l : Layout) (ts : List TraitFnDef) (m : ℕ) (table : List ℕ) {at w n : ℕ} → AllAskedHere l ts at m → w ≡ get_or (pool_words l) at 0 → (w ≤ 64 → n ≡ w)
    → take (length ts) table ≡ names_of ts → take n table ≡ names_of ts
asked_names l ts m table k e few q = let c = e ∙ k.0.is in ap (λ (j : ℕ). take j table) (few (omega (arith, k.1, c)) ∙ c) ∙ q

module _ (l : Layout) where
  -- over the places of an implementation's functions: a test of them by their names, under those in some list
  module _ (places : List ℕ) where
    module _ (test : List ℕ → List ImplFnDef → Result (Unit {0})) (whole : Result (Unit {0})) where
      abbrev pub Tested : List ℕ → ℕ → Type 0
      Tested xs = Rest (FunctionHere l) places (λ rest. test xs rest ≡ whole)

    abbrev pub NameAt : ℕ → ℕ → Type 0
    NameAt place x = (f : ImplFnDef) (m : ℕ) → FunctionHere l f place m → x ≡ f.name

    module _ (whole : Result (Unit {0})) {i : ℕ} where
      module _ (xs : List ℕ) (w : Tested no_stranger whole xs i) where
        -- the next name, and whether it is in a list of the same names
        module _ (b : i < length places) {x : ℕ} (name : NameAt (get_or places i 0) x) {ys : List ℕ} (same : ys ≡ xs) {a : Bool} (listed : a ≡ member x ys) where
          so : {v : Bool} → a ≡ v → {f : ImplFnDef} {m : ℕ} → FunctionHere l f (get_or places i 0) m → member f.name xs ≡ v
          so y {f} {m} q = ap (λ (k : ℕ). member k xs) (sym (name f m q)) ∙ ap (member x) (sym same) ∙ sym listed ∙ y

          pub not_known : a ≡ false → {r : Outcome} → r.ok ≡ false → refusal_of r.refusal ≡ in_function 10 x → Passes whole r
          not_known y {r} z e = turned _ _ _ w b (λ f fs m q s _. passes (sym (stranger_found xs f fs (so y q)) ∙ s) (z, e ∙ ap (in_function 10) (name f m q)))

          pub known : a ≡ true → Tested no_stranger whole xs (i + 1)
          known y = turned _ _ _ w b (λ f fs m q s r. passed _ _ _ fs r (sym (stranger_known xs f fs (so y q)) ∙ s))

        pub all_known : length places ≤ i → {r : Outcome} → r.ok ≡ true → Passes whole r
        unfolding no_stranger
        all_known b y = passes (ended _ _ _ w b) y

-- a test of functions by their names alone
abbrev Called : ImplFnDef → ℕ → ℕ → Type 0
Called f x m = x ≡ f.name

called : (fs : List ImplFnDef) → EachAt Called fs (own_names fs)
called [] = tt
called (f ∷ fs) = (0, refl, called fs)

module _ (names : List ℕ) (whole : Result (Unit {0})) where
  abbrev pub Repeats : ℕ → Type 0
  Repeats i = Rest Called names (λ rest. no_repeat (take i names) rest ≡ whole) i

  pub none_yet : (fs : List ImplFnDef) → names ≡ own_names fs → no_repeat [] fs ≡ whole → Repeats 0
  none_yet fs e s = passed _ _ _ fs (subst (EachAt Called fs) (sym e) (called fs)) s

  module _ {i : ℕ} (w : Repeats i) where
    module _ (b : i < length names) where
      pub seen_before : member (get_or names i 0) (take i names) ≡ true → {r : Outcome} → r.ok ≡ false → refusal_of r.refusal ≡ in_function 9 (get_or names i 0) → Passes whole r
      seen_before y {r} z e = turned _ _ _ w b (λ f fs m q s _.
          passes (sym (repeat_seen (take i names) f fs (ap (λ (k : ℕ). member k (take i names)) (sym q) ∙ y)) ∙ s) (z, e ∙ ap (in_function 9) q))

      pub not_seen : member (get_or names i 0) (take i names) ≡ false → Repeats (i + 1)
      not_seen y = turned _ _ _ w b (λ f fs m q s r. passed _ _ _ fs r
          (ap (λ (zs : List ℕ). no_repeat zs fs) (take_one names i b ∙ ap (λ (k : ℕ). take i names ++ (k ∷ [])) q) ∙ sym (repeat_new (take i names) f fs (ap (λ (k : ℕ). member k (take i names)) (sym q) ∙ y)) ∙ s))

    pub none_seen : length names ≤ i → {r : Outcome} → r.ok ≡ true → Passes whole r
    unfolding no_repeat
    none_seen b y = passes (ended _ _ _ w b) y
