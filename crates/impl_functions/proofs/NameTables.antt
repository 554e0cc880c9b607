-- Tables of functions' names, filled by a walk. Assumes nothing.
use Prim.Native.Nat.{ℕ, ◌+◌, ◌<◌, ◌≤◌}
use mathlib.Core.Path.{◌≡◌, sym, ap, ◌∙◌}
use mathlib.Core.List.{List, ◌∷◌, ◌++◌, append-nil, map}
use native.Mathlib.Omega.{arith}
use lib.ListN.{length, get_or, take, set}
use lib.Seq.{append_snoc}
use Rattle.std.proofs.lemmas.List.{take-append-le}
use Rattle.rules.specs.Syntax.{ImplFnDef, TraitFnDef}
use Rattle.image_layout.specs.declared.Layout.{Layout}
use Rattle.pool_traits.specs.Different.{names_of}
use Rattle.pool_traits.proofs.Different.{take_more}
use Rattle.impl_functions.specs.Functions.{FunctionHere, AskedHere}
use Rattle.impl_functions.proofs.Walk as walk
use Rattle.impl_functions.proofs.PlaceTable.{Rest, turned, ended, passed}

abbrev pub own_names : List ImplFnDef → List ℕ
own_names fs = map (λ f. f.name) fs

module _ (l : Layout) where
  -- the names of trait functions, those that are left behind those in the table
  abbrev pub Names : List TraitFnDef → List ℕ → ℕ → ℕ → ℕ → ℕ → Type 0
  Names ts table n count i next = walk.Left (AskedHere l) (λ rest. take i table ++ names_of rest ≡ names_of ts) n count i next

  module _ (ts : List TraitFnDef) (table : List ℕ) {n count i next : ℕ} (w : Names ts table n count i next) where
    pub named : i < count → i < length table → {x : ℕ} → ((f : TraitFnDef) (m : ℕ) → AskedHere l f next m → x ≡ f.name) → {k : ℕ} → ((f : TraitFnDef) (m : ℕ) → AskedHere l f next m → k ≡ m)
        → Names ts (set table i x) n count (i + 1) k
    named b inside {x} name behind = walk.turned _ _ w b (λ f fs m q s r c. walk.left _ _ fs r c (behind f m q)
        (ap (λ (xs : List ℕ). xs ++ names_of fs) (take_more table i x inside) ∙ append_snoc (take i table) x (names_of fs)
        ∙ ap (λ (y : ℕ). take i table ++ (y ∷ names_of fs)) (name f m q) ∙ s))

    pub all_named : count ≤ i → count ≡ length ts → take (length ts) table ≡ names_of ts
    all_named b c = let e = walk.ended _ _ w b in ap (λ (k : ℕ). take k table) (sym (e.0 ∙ c)) ∙ sym (append-nil (take i table)) ∙ e.1

    -- the table stands in front of other words
    pub all_filled : count ≤ i → count ≡ length ts → length table ≡ count → (behind : List ℕ) → take (length ts) (table ++ behind) ≡ names_of ts
    all_filled b c e behind = take-append-le (length ts) table behind (omega (arith, c, e)) ∙ all_named b c

  -- the names of an implementation's functions, those that are left behind those in the table
  abbrev pub OwnNames : List ImplFnDef → List ℕ → List ℕ → ℕ → Type 0
  OwnNames fs places table i = Rest (FunctionHere l) places (λ rest. take i table ++ own_names rest ≡ own_names fs) i

  module _ (fs : List ImplFnDef) (places table : List ℕ) {i : ℕ} (w : OwnNames fs places table i) where
    pub own_named : i < length places → i < length table → {x : ℕ} → ((f : ImplFnDef) (m : ℕ) → FunctionHere l f (get_or places i 0) m → x ≡ f.name) → OwnNames fs places (set table i x) (i + 1)
    own_named b inside {x} name = turned _ _ _ w b (λ f rest m q s r. passed _ _ _ rest r
        (ap (λ (xs : List ℕ). xs ++ own_names rest) (take_more table i x inside) ∙ append_snoc (take i table) x (own_names rest)
        ∙ ap (λ (y : ℕ). take i table ++ (y ∷ own_names rest)) (name f m q) ∙ s))

    pub all_own : length places ≤ i → i ≤ length places → take (length places) table ≡ own_names fs
    all_own b c = let e : length places ≡ i = omega arith in ap (λ (k : ℕ). take k table) e ∙ sym (append-nil (take i table)) ∙ ended _ _ _ w b
