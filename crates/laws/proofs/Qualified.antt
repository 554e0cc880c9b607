-- A qualified name's definition, or Named alias, is that of the one name which has its text.
use Prim.Native.Nat.{ℕ, zero, suc, ◌≤◌}
use mathlib.Core.Path.{◌≡◌, refl, sym, ap, ◌∙◌}
use mathlib.Core.Logic.{inl, inr}
use mathlib.Core.Bool.{Bool, true, false}
use mathlib.Core.List.{List, [], ◌∷◌, ◌++◌}
use mathlib.Core.Option.{Option, none, some}
use native.Mathlib.Omega.{arith}
use lib.ListN.{length, get_elem?}
use Rattle.rules.specs.Words.{same}
use Rattle.rules.specs.Syntax.{Name, CompiledSchema}
use Rattle.rules.specs.Options.{then}
use Rattle.rules.specs.Image.{new_text, different_texts}
use Rattle.rules.specs.Substitute.{find_text, definition_of, lookup, lookup_qualified}
use Rattle.rules.proofs.Clash.{clash}
use Rattle.laws.specs.GoodSchema.{GoodName}
use Rattle.laws.specs.Qualified.{Join, OneName, DefinedAsThatName, NoName, TooLong, NoHalf, TextAlone}
use Rattle.laws.proofs.Each.{at_all}
use Rattle.laws.proofs.Same.{same_self, same_true}
use Rattle.laws.proofs.Schema.{readable_good}

-- ---- names whose texts differ
module _ (t : List ℕ) where
  -- no name has a new text
  absent : (ns : List Name) → new_text t ns ≡ true → (i : ℕ) (w : Name) → get_elem? ns i ≡ some w → w.text ≡ t → ⊥
  unfolding new_text
  absent [] e i w at h = clash (cc)
  absent (n ∷ ns) e i w at h = go (same t n.text) refl e i at (absent ns)
    where
      go : (b : Bool) → same t n.text ≡ b → (elim b as (λ _. Bool) [ true ↦ false | false ↦ new_text t ns ]) ≡ true → (i : ℕ) → get_elem? (n ∷ ns) i ≡ some w
          → (new_text t ns ≡ true → (i : ℕ) (w : Name) → get_elem? ns i ≡ some w → w.text ≡ t → ⊥) → ⊥
      go true q e i at ih = clash (cc)
      go false q e zero at ih = let s : same t t ≡ true = same_self t in clash (cc)
      go false q e (suc i) at ih = ih e i w at h

-- the first has a text that no other has, and the others differ
differ : (n : Name) (ns : List Name) → different_texts (n ∷ ns) ≡ true → (new_text n.text ns ≡ true) × (different_texts ns ≡ true)
unfolding different_texts
differ n ns e = go (new_text n.text ns) refl e
  where
    go : (b : Bool) → new_text n.text ns ≡ b → (elim b as (λ _. Bool) [ true ↦ different_texts ns | false ↦ false ]) ≡ true → (new_text n.text ns ≡ true) × (different_texts ns ≡ true)
    go true q e = (q, e)
    go false q e = clash (cc)

module _ (t : List ℕ) where
  -- at most one has a text
  one : (ns : List Name) → different_texts ns ≡ true → (i j : ℕ) (v w : Name) → get_elem? ns i ≡ some v → get_elem? ns j ≡ some w → v.text ≡ t → w.text ≡ t → i ≡ j
  one [] e i j v w a b h k = clash (cc)
  one (n ∷ ns) e zero zero v w a b h k = refl
  one (n ∷ ns) e zero (suc j) v w a b h k = absurd (absent n.text ns (differ n ns e).0 j w b (cc))
  one (n ∷ ns) e (suc i) zero v w a b h k = absurd (absent n.text ns (differ n ns e).0 i v a (cc))
  one (n ∷ ns) e (suc i) (suc j) v w a b h k = ap suc (one ns (differ n ns e).1 i j v w a b h k)

  -- and that one is found
  pub found : (ns : List Name) → different_texts ns ≡ true → (i : ℕ) (w : Name) → get_elem? ns i ≡ some w → w.text ≡ t → find_text t ns ≡ some w
  unfolding find_text
  found [] e i w at h = clash (cc)
  found (n ∷ ns) e i w at h = go (same t n.text) refl i at (found ns (differ n ns e).1)
    where
      go : (b : Bool) → same t n.text ≡ b → (i : ℕ) → get_elem? (n ∷ ns) i ≡ some w
          → ((i : ℕ) (w : Name) → get_elem? ns i ≡ some w → w.text ≡ t → find_text t ns ≡ some w)
          → (elim b as (λ _. Option Name) [ true ↦ some n | false ↦ find_text t ns ]) ≡ some w
      go true q zero at ih = at
      go true q (suc i) at ih = let s : t ≡ n.text = same_true t n.text q in absurd (absent n.text ns (differ n ns e).0 i w at (h ∙ s))
      go false q zero at ih = let s : same t t ≡ true = same_self t in clash (cc)
      go false q (suc i) at ih = ih i w at h

  -- a name that is found has the text
  found_has : (ns : List Name) (w : Name) → find_text t ns ≡ some w → (i : ℕ) × (get_elem? ns i ≡ some w) × (w.text ≡ t)
  unfolding find_text
  found_has [] w e = clash (cc)
  found_has (n ∷ ns) w e = go (same t n.text) refl e (found_has ns w)
    where
      go : (b : Bool) → same t n.text ≡ b → (elim b as (λ _. Option Name) [ true ↦ some n | false ↦ find_text t ns ]) ≡ some w
          → (find_text t ns ≡ some w → (i : ℕ) × (get_elem? ns i ≡ some w) × (w.text ≡ t)) → (i : ℕ) × (get_elem? (n ∷ ns) i ≡ some w) × (w.text ≡ t)
      go true q e ih = let s : t ≡ n.text = same_true t n.text q in (0, e, cc)
      go false q e ih = let h = ih e in (suc h.0, h.1, h.2)

-- ---- the definition of a qualified name
pub one_name : OneName
one_name image schema r t i j h k = one t schema.names (readable_good image schema r).different i j h.name k.name h.at k.at h.text k.text

-- it is looked up by its text
by_text : (schema : CompiledSchema) (t : List ℕ) (s x : ℕ) → Join schema s x t → lookup_qualified schema s x ≡ then (find_text t schema.names) definition_of
unfolding lookup_qualified then
by_text schema t s x j = rw (j.at_namespace, j.at_name) (ap (λ (u : List ℕ). then (find_text u schema.names) definition_of) j.text)

pub defined_as_that_name : DefinedAsThatName
unfolding lookup
defined_as_that_name image schema r t s x i j h =
    by_text schema t s x j
    ∙ ap (λ (o : Option Name). then o definition_of) (found t schema.names (readable_good image schema r).different i h.name h.at h.text ∙ sym h.at)

pub no_name : NoName
unfolding then
no_name schema t s x j free = by_text schema t s x j ∙ ap (λ (o : Option Name). then o definition_of) (go (find_text t schema.names) refl)
  where
    go : (o : Option Name) → find_text t schema.names ≡ o → find_text t schema.names ≡ none
    go none e = e
    go (some w) e = let h = found_has t schema.names w e in absurd (free h.0 (record { name = w; at = h.1; text = h.2 }))

pub too_long : TooLong
too_long image schema r t s x j l = no_name schema t s x j λ i h.
    let g = readable_good image schema r in
    let good = at_all (GoodName (length schema.names) (length schema.definitions)) schema.names i g.names_good in
    let size : length h.name.text ≤ 255 = (rw h.at at good).text in
    omega (arith, ap length h.text)

pub no_half : NoHalf
unfolding lookup_qualified then
no_half schema s x (inl e) = rw e
no_half schema s x (inr e) = go (get_elem? schema.names s)
  where
    go : (o : Option Name) → then o (λ m. then (get_elem? schema.names x) (λ n. then (find_text (m.text ++ 46 ∷ n.text) schema.names) definition_of)) ≡ none
    go none = refl
    go (some m) = rw e

pub text_alone : TextAlone
text_alone schema t s x r y j k = by_text schema t s x j ∙ sym (by_text schema t r y k)
