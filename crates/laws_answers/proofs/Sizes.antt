-- The sizes of an implementation's functions, by names: a function that is found counts once.
use Prim.Native.Nat.{ℕ, ◌+◌, ◌≤◌}
use mathlib.Core.Path.{◌≡◌, refl, sym, ap, subst, ◌∙◌}
use mathlib.Core.Bool.{Bool, true, false, cond}
use mathlib.Core.List.{List, [], ◌∷◌}
use mathlib.Core.Option.{Option, some}
use native.Mathlib.Omega.{arith}
use lib.ListN.{length, length-append}
use lib.Dec.{eqb}
use borrow.Author.Tests.{eqb-true, eq-eqb}
use Rattle.rules.specs.Words.{member, all_different}
use Rattle.rules.specs.Syntax.{ImplFnDef}
use Rattle.rules.specs.Project.{find_function}
use Rattle.rules.specs.Output.{each}
use Rattle.rules.proofs.Clash.{clash}
use Rattle.laws.specs.DefinitionRuns.{impl_function_words}

abbrev pub size : ImplFnDef → ℕ
size f = length (impl_function_words f)

-- the size of the functions whose names are listed
abbrev pub named_size : List ℕ → List ImplFnDef → ℕ
named_size ns [] = 0
named_size ns (f ∷ fs) = cond (member f.name ns) (length (impl_function_words f)) 0 + named_size ns fs

cond_most : (b : Bool) (n : ℕ) → cond b n 0 ≤ n
cond_most true n = omega arith
cond_most false n = omega arith

-- all functions' words together
pub named_size_most : (ns : List ℕ) (fs : List ImplFnDef) → named_size ns fs ≤ length (each impl_function_words fs)
unfolding each
named_size_most ns [] = omega arith
named_size_most ns (f ∷ fs) = omega (
  arith,
  cond_most (member f.name ns) (length (impl_function_words f)),
  named_size_most ns fs,
  length-append (impl_function_words f) (each impl_function_words fs),
)

-- a name more in the list
head_more : (x n : ℕ) (ns : List ℕ) (w : ℕ) → cond (member x ns) w 0 ≤ cond (member x (n ∷ ns)) w 0
unfolding member
head_more x n ns w = go (eqb x n)
  where
    go : (b : Bool) → cond (member x ns) w 0 ≤ cond (elim b as (λ _. Bool) [ true ↦ true | false ↦ member x ns ]) w 0
    go true = cond_most (member x ns) w
    go false = omega arith

named_more : (n : ℕ) (ns : List ℕ) (fs : List ImplFnDef) → named_size ns fs ≤ named_size (n ∷ ns) fs
named_more n ns [] = omega arith
named_more n ns (f ∷ fs) = omega (arith, head_more f.name n ns (length (impl_function_words f)), named_more n ns fs)

member_first : (n : ℕ) (ns : List ℕ) → member n (n ∷ ns) ≡ true
unfolding member
member_first n ns = ap {B = Bool} (λ b. elim b as (λ _. Bool) [ true ↦ true | false ↦ member n ns ]) (eq-eqb n n refl)

-- a function that is found counts once
pub named_found : (n : ℕ) (ns : List ℕ) → member n ns ≡ false → (fs : List ImplFnDef) (f : ImplFnDef) → find_function n fs ≡ some f
    → size f + named_size ns fs ≤ named_size (n ∷ ns) fs
unfolding find_function
named_found n ns m [] f e = clash (cc)
named_found n ns m (g ∷ fs) f e = go (eqb n g.name) refl e (named_found n ns m fs f)
  where
    head : g.name ≡ n → size g + named_size ns (g ∷ fs) ≤ named_size (n ∷ ns) (g ∷ fs)
    head q =
        let none_before : cond (member g.name ns) (size g) 0 ≡ 0 = ap (λ (x : ℕ). cond (member x ns) (size g) 0) q ∙ ap (λ (b : Bool). cond b (size g) 0) m in
        let one_now : cond (member g.name (n ∷ ns)) (size g) 0 ≡ size g = ap (λ (x : ℕ). cond (member x (n ∷ ns)) (size g) 0) q ∙ ap (λ (b : Bool). cond b (size g) 0) (member_first n ns) in
        omega (arith, none_before, one_now, named_more n ns fs)

    go : (b : Bool) → eqb n g.name ≡ b → ◌≡◌ {A = Option ImplFnDef} (elim b as (λ _. Option ImplFnDef) [ true ↦ some g | false ↦ find_function n fs ]) (some f)
        → (find_function n fs ≡ some f → size f + named_size ns fs ≤ named_size (n ∷ ns) fs)
        → size f + named_size ns (g ∷ fs) ≤ named_size (n ∷ ns) (g ∷ fs)
    go true q e ih = let same : g ≡ f = cc in subst (λ (f : ImplFnDef). size f + named_size ns (g ∷ fs) ≤ named_size (n ∷ ns) (g ∷ fs)) same (head (sym (eqb-true n g.name q)))
    go false q e ih = omega (arith, ih e, head_more g.name n ns (size g))

-- a list with no number twice
pub different_first : (x : ℕ) (xs : List ℕ) → all_different (x ∷ xs) ≡ true → (member x xs ≡ false) × (all_different xs ≡ true)
unfolding all_different
different_first x xs e = go (member x xs) refl e
  where
    go : (b : Bool) → member x xs ≡ b → (elim b as (λ _. Bool) [ true ↦ false | false ↦ all_different xs ]) ≡ true → (member x xs ≡ false) × (all_different xs ≡ true)
    go true q e = clash (cc)
    go false q e = (q, e)
