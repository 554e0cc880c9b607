-- Implementations that list the same functions in any order are accepted together.
use Prim.Native.Nat.{ℕ}
use mathlib.Core.Path.{◌≡◌, refl, sym, ap, ◌∙◌}
use mathlib.Core.Logic.{◌↔◌}
use mathlib.Core.Bool.{Bool, true, false, not}
use mathlib.Core.List.{List, [], ◌∷◌}
use mathlib.Core.Option.{Option, some}
use lib.Dec.{eqb}
use borrow.Author.Tests.{eqb-true, eq-eqb}
use Rattle.rules.specs.Words.{member}
use Rattle.rules.specs.Syntax.{ImplFnDef, ImplDef, MessageDef, TraitDef, CompiledSchema}
use Rattle.rules.specs.Refusal.{Result, ok, ◌>>=◌, ensure}
use Rattle.rules.specs.Signatures.{PortableSignature, find_trait, expected_functions}
use Rattle.rules.specs.Bodies.{PortableFunction, project_function}
use Rattle.rules.specs.Project.{no_repeat, no_stranger, find_function, project_list, target_message, project_impl}
use Rattle.rules.proofs.Clash.{clash}
use Rattle.promises.specs.Order.{Reordered, same, swap, keep, both, Relisted}
use Rattle.promises.proofs.Results.{ensured, found, is_there}
use Rattle.promises.proofs.Parts.{parts, whole}

-- the other way round
back : {fs gs : List ImplFnDef} → Reordered fs gs → Reordered gs fs
back same = same
back swap = swap
back (keep r) = keep (back r)
back (both r s) = both (back s) (back r)

-- a test that holds goes on
held : {B : Type 0} (t : Bool) (f : Unit {0} → Result B) (b : B) (r : _) → t ≡ true → f tt ≡ ok b → (ensure t r >>= f) ≡ ok b
unfolding ensure ◌>>=◌
held true f b r e q = q
held false f b r e q = clash (cc)

-- ---- no repeat depends on what was seen as a set

abbrev seen_or : Bool → Bool → Bool
seen_or a b = elim a [ true ↦ true | false ↦ b ]

or_seen : (x y : ℕ) (s t : List ℕ) → member x s ≡ member x t → member x (y ∷ s) ≡ member x (y ∷ t)
unfolding member
or_seen x y s t e = ap (seen_or (eqb x y)) e

swap_seen : (x y z : ℕ) (s : List ℕ) → member x (y ∷ z ∷ s) ≡ member x (z ∷ y ∷ s)
unfolding member
swap_seen x y z s = go (eqb x y) (eqb x z)
  where
    go : (a b : Bool) → seen_or a (seen_or b (member x s)) ≡ seen_or b (seen_or a (member x s))
    go true true = refl
    go true false = refl
    go false true = refl
    go false false = refl

repeat_seen : (s t : List ℕ) (fs : List ImplFnDef) → ((x : ℕ) → member x s ≡ member x t) → no_repeat s fs ≡ no_repeat t fs
unfolding no_repeat
repeat_seen s t [] e = refl
repeat_seen s t (f ∷ fs) e = rw (e f.name, repeat_seen (f.name ∷ s) (f.name ∷ t) fs (λ x. or_seen x f.name s t (e x)))

-- a name is new where something else was seen besides it
new_of : (x y : ℕ) (s : List ℕ) → not (member x (y ∷ s)) ≡ true → (eqb x y ≡ false) × (not (member x s) ≡ true)
unfolding member
new_of x y s e = go (eqb x y) refl e
  where
    go : (b : Bool) → eqb x y ≡ b → not (seen_or b (member x s)) ≡ true → (eqb x y ≡ false) × (not (member x s) ≡ true)
    go true p q = clash (cc)
    go false p q = (p, q)

new_both : (x y : ℕ) (s : List ℕ) → eqb x y ≡ false → not (member x s) ≡ true → not (member x (y ∷ s)) ≡ true
unfolding member
new_both x y s p q = ap (λ (b : Bool). not (seen_or b (member x s))) p ∙ q

apart_back : (x y : ℕ) → eqb x y ≡ false → eqb y x ≡ false
apart_back x y p = go (eqb y x) refl
  where
    go : (b : Bool) → eqb y x ≡ b → b ≡ false
    go true q = let e : eqb x y ≡ true = eq-eqb x y (sym (eqb-true y x q)) in clash (cc)
    go false q = refl

-- ---- the three tests that read the list of functions

pub record Alike (fs gs : List ImplFnDef) : Type 0 where
  pub repeats : (seen : List ℕ) → no_repeat seen fs ≡ ok tt → no_repeat seen gs ≡ ok tt
  pub strangers : (known : List ℕ) → no_stranger known fs ≡ ok tt → no_stranger known gs ≡ ok tt
  pub finds : (seen : List ℕ) (x : ℕ) → no_repeat seen fs ≡ ok tt → find_function x fs ≡ find_function x gs

abbrev found_or : Bool → ImplFnDef → Option ImplFnDef → Option ImplFnDef
found_or b f o = elim b [ true ↦ some f | false ↦ o ]

swap_found : (x : ℕ) (f g : ImplFnDef) (fs : List ImplFnDef) → eqb g.name f.name ≡ false → find_function x (f ∷ g ∷ fs) ≡ find_function x (g ∷ f ∷ fs)
unfolding find_function
swap_found x f g fs p = go (eqb x f.name) (eqb x g.name) refl refl
  where
    go : (a b : Bool) → eqb x f.name ≡ a → eqb x g.name ≡ b → found_or a f (found_or b g (find_function x fs)) ≡ found_or b g (found_or a f (find_function x fs))
    go true true q r =
        let e : eqb g.name f.name ≡ true = eq-eqb g.name f.name (sym (eqb-true x g.name r) ∙ eqb-true x f.name q) in
        clash (cc)
    go true false q r = refl
    go false true q r = refl
    go false false q r = refl

swap_alike : (f g : ImplFnDef) (fs : List ImplFnDef) → Alike (f ∷ g ∷ fs) (g ∷ f ∷ fs)
unfolding no_repeat no_stranger
swap_alike f g fs = record {
  repeats = λ seen q.
      let a = ensured _ _ _ _ q in
      let b = ensured _ _ _ _ a.1 in
      let n = new_of g.name f.name seen b.0 in
      held _ _ _ _ n.1
      (held _ _ _ _ (new_both f.name g.name seen (apart_back g.name f.name n.0) a.0)
      (sym (repeat_seen _ _ fs (λ x. swap_seen x g.name f.name seen)) ∙ b.1));
  strangers = λ known q.
      let a = ensured _ _ _ _ q in
      let b = ensured _ _ _ _ a.1 in
      held _ _ _ _ b.0 (held _ _ _ _ a.0 b.1);
  finds = λ seen x q.
      let a = ensured _ _ _ _ q in
      let b = ensured _ _ _ _ a.1 in
      swap_found x f g fs (new_of g.name f.name seen b.0).0;
}

keep_alike : (f : ImplFnDef) (fs gs : List ImplFnDef) → Alike fs gs → Alike (f ∷ fs) (f ∷ gs)
unfolding no_repeat no_stranger find_function
keep_alike f fs gs h = record {
  repeats = λ seen q. let a = ensured _ _ _ _ q in held _ _ _ _ a.0 (h.repeats _ a.1);
  strangers = λ known q. let a = ensured _ _ _ _ q in held _ _ _ _ a.0 (h.strangers known a.1);
  finds = λ seen x q. ap (found_or (eqb x f.name) f) (h.finds _ x (ensured _ _ _ _ q).1);
}

alike : {fs gs : List ImplFnDef} → Reordered fs gs → Alike fs gs
alike same = record { repeats = λ seen q. q; strangers = λ known q. q; finds = λ seen x q. refl }
alike (swap {f} {g} {fs}) = swap_alike f g fs
alike (keep {f} {fs} {gs} r) = keep_alike f fs gs (alike r)
alike (both r s) =
    let a = alike r in
    let b = alike s in
    record {
      repeats = λ seen q. b.repeats seen (a.repeats seen q);
      strangers = λ known q. b.strangers known (a.strangers known q);
      finds = λ seen x q. a.finds seen x q ∙ b.finds seen x (a.repeats seen q);
    }

-- ---- the whole implementation

relisted_back : {i j : ImplDef} → Relisted i j → Relisted j i
relisted_back r = record { trait_id = sym r.trait_id; target_type = sym r.target_type; type_args = sym r.type_args; functions = back r.functions }

module _ (i j : ImplDef) (same_target : i.target_type ≡ j.target_type) where
  same_project : (f : ImplFnDef) (s : PortableSignature) (m : MessageDef) → project_function f s m i ≡ project_function f s m j
  unfolding project_function
  same_project f s m = rw same_target

  same_list : (m : MessageDef) (ss : List PortableSignature) → ((x : ℕ) → find_function x i.functions ≡ find_function x j.functions) → project_list i m ss ≡ project_list j m ss
  unfolding project_list
  same_list m [] h = refl
  same_list m (s ∷ ss) h = simp (h s.name, same_list m ss h, same_project)

module _ (schema : CompiledSchema) where
  same_trait : (i j : ImplDef) (t : TraitDef) → i.trait_id ≡ j.trait_id → find_trait schema i ≡ ok t → find_trait schema j ≡ ok t
  unfolding find_trait
  same_trait i j t e q = is_there _ _ _ (rw (← e) (found _ _ _ q))

  same_message : (i j : ImplDef) → i.target_type ≡ j.target_type → target_message schema i ≡ target_message schema j
  unfolding target_message
  same_message i j e = rw e

  same_expected : (i j : ImplDef) (t : TraitDef) → i.type_args ≡ j.type_args → expected_functions schema t i ≡ expected_functions schema t j
  unfolding expected_functions
  same_expected i j t e = rw e

  one_way : (i j : ImplDef) (p : ℕ × List PortableFunction) → Relisted i j → project_impl schema i ≡ ok p → project_impl schema j ≡ ok p
  one_way i j p r q =
      let a = parts schema i p q in
      let s = alike r.functions in
      whole schema j p (record {
        trait = a.trait;
        message = a.message;
        expected = a.expected;
        as_trait = same_trait i j a.trait r.trait_id a.as_trait;
        as_message = sym (same_message i j r.target_type) ∙ a.as_message;
        is_expected = sym (same_expected i j a.trait r.type_args) ∙ a.is_expected;
        no_repeats = s.repeats [] a.no_repeats;
        no_strangers = s.strangers _ a.no_strangers;
        projected = sym (same_list i j r.target_type a.message a.expected (λ x. s.finds [] x a.no_repeats)) ∙ a.projected;
      })

  pub relisted : (i j : ImplDef) → Relisted i j → (p : ℕ × List PortableFunction) → (project_impl schema i ≡ ok p) ↔ (project_impl schema j ≡ ok p)
  relisted i j r p = (one_way i j p r, one_way j i p (relisted_back r))
