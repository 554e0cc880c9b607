-- Names whose texts stand in the rows: the rules' questions about their texts, answered by the rows.
use mathlib.Core.Path.{◌≡◌, refl, ap, ap₂, ◌∙◌, sym}
use mathlib.Core.Bool.{Bool, true, false, ◌&&◌, not}
use mathlib.Core.List.{List, [], ◌∷◌, ◌++◌}
use mathlib.Core.Option.{Option, none, some}
use Prim.Native.Nat.{ℕ, zero, suc, ◌+◌, ◌<◌, ◌≤◌}
use native.Mathlib.Omega.{arith}
use lib.ListN.{length, drop, get_elem?, drop_of_length-le}
use Rattle.rules.specs.Words.{NONE, same}
use Rattle.rules.specs.Syntax.{Name, CompiledSchema}
use Rattle.rules.specs.Options.{then}
use Rattle.rules.specs.Image.{new_text, different_texts}
use Rattle.rules.specs.Substitute.{find_text, definition_of, lookup, lookup_qualified}
use Rattle.image_texts.specs.All.{all_below}
use Rattle.image_texts.proofs.All.{all_front, all_same, all_both}
use Rattle.image_texts.specs.Rows.{row_text, new_row, rows_differ, first_from, find_row, qualified_text}
use Rattle.image_texts.proofs.Find.{first_below}

-- the i-th name's text is the i-th of these
abbrev pub Told : (ℕ → List ℕ) → List Name → Type 0
Told f ns = (i : ℕ) (n : Name) → get_elem? ns i ≡ some n → n.text ≡ f i

-- the i-th name's text is that of row i
abbrev pub InRows : List ℕ → ℕ → List Name → Type 0
InRows image names_start ns = Told (row_text image names_start) ns

-- ---- all texts differ
-- of the texts before i none is the i-th
abbrev fresh : (ℕ → List ℕ) → ℕ → Bool
fresh f i = all_below i (λ j. not (same (f j) (f i)))

not_then : (b c : Bool) → (elim b as (λ _. Bool) [ true ↦ false | false ↦ c ]) ≡ not b && c
not_then true c = refl
not_then false c = refl

and_then : (b c : Bool) → (elim b as (λ _. Bool) [ true ↦ c | false ↦ false ]) ≡ b && c
and_then true c = refl
and_then false c = refl

-- a text that no name has
new_told : (f : ℕ → List ℕ) (t : List ℕ) (ns : List Name) → Told f ns → new_text t ns ≡ all_below (length ns) (λ i. not (same t (f i)))
unfolding new_text all_below
new_told f t [] h = refl
new_told f t (n ∷ ns) h =
    not_then (same t n.text) (new_text t ns)
    ∙ ap₂ (λ (x : List ℕ) (b : Bool). not (same t x) && b) (h 0 n refl) (new_told (λ i. f (suc i)) t ns (λ i. h (suc i)))
    ∙ sym (all_front (length ns) (λ i. not (same t (f i))))

-- the first text taken out
fresh_front : (f : ℕ → List ℕ) (n : ℕ) → all_below (suc n) (fresh f) ≡ all_below n (λ i. not (same (f 0) (f (suc i)))) && all_below n (fresh (λ i. f (suc i)))
unfolding all_below
fresh_front f n =
    all_front n (fresh f)
    ∙ all_same n (λ i. fresh f (suc i)) (λ i. not (same (f 0) (f (suc i))) && fresh (λ k. f (suc k)) i) (λ i. all_front i (λ j. not (same (f j) (f (suc i)))))
    ∙ all_both n (λ i. not (same (f 0) (f (suc i)))) (fresh (λ i. f (suc i)))

differ_told : (f : ℕ → List ℕ) (ns : List Name) → Told f ns → different_texts ns ≡ all_below (length ns) (fresh f)
unfolding different_texts all_below
differ_told f [] h = refl
differ_told f (n ∷ ns) h =
    and_then (new_text n.text ns) (different_texts ns)
    ∙ ap₂ ◌&&◌
    (ap (λ (t : List ℕ). new_text t ns) (h 0 n refl) ∙ new_told (λ i. f (suc i)) (f 0) ns (λ i. h (suc i)))
    (differ_told (λ i. f (suc i)) ns (λ i. h (suc i)))
    ∙ sym (fresh_front f (length ns))

-- the rules' test of the names is that of the rows
pub differ_rule : (image : List ℕ) (names_start : ℕ) (ns : List Name) → InRows image names_start ns → different_texts ns ≡ rows_differ image names_start (length ns)
unfolding rows_differ new_row
differ_rule image names_start ns h = differ_told (row_text image names_start) ns h

-- ---- the row of a text
-- a name that is there, at the front of what is left
there : (ns : List Name) (k : ℕ) → k < length ns → (n : Name) × (get_elem? ns k ≡ some n) × (drop k ns ≡ n ∷ drop (suc k) ns)
there [] k h = absurd (omega arith)
there (n ∷ ns) zero h = (n, refl, refl)
there (n ∷ ns) (suc k) h = there ns k (omega arith)

past : (ns : List Name) (k : ℕ) → length ns ≤ k → get_elem? ns k ≡ none
past [] k h = refl
past (n ∷ ns) zero h = absurd (omega arith)
past (n ∷ ns) (suc k) h = past ns k (omega arith)

choose : (ns : List Name) (n : Name) (x : Option Name) (k y : ℕ) (b : Bool) → get_elem? ns k ≡ some n → x ≡ get_elem? ns y
    → (elim b as (λ _. Option Name) [ true ↦ some n | false ↦ x ]) ≡ get_elem? ns (elim b as (λ _. ℕ) [ true ↦ k | false ↦ y ])
choose ns n x k y true at e = sym at
choose ns n x k y false at e = e

module _ (f : ℕ → List ℕ) (t : List ℕ) (ns : List Name) (told : Told f ns) (few : length ns ≤ NONE) where
  find_told : (left k : ℕ) → k + left ≡ length ns → find_text t (drop k ns) ≡ get_elem? ns (first_from (λ i. same t (f i)) left k)
  unfolding find_text first_from
  find_told zero k e = rw (drop_of_length-le ns {i = k} (omega arith)) (sym (past ns NONE few))
  find_told (suc left) k e = at_name (there ns k (omega arith)) (find_told left (suc k) (omega arith))
    where
      at_name : (n : Name) × (get_elem? ns k ≡ some n) × (drop k ns ≡ n ∷ drop (suc k) ns)
          → find_text t (drop (suc k) ns) ≡ get_elem? ns (first_from (λ i. same t (f i)) left (suc k))
          → find_text t (drop k ns) ≡ get_elem? ns (first_from (λ i. same t (f i)) (suc left) k)
      at_name (n, at, front) ih =
          ap (find_text t) front
          ∙ ap (λ (s : List ℕ). elim (same t s) as (λ _. Option Name) [ true ↦ some n | false ↦ find_text t (drop (suc k) ns) ]) (told k n at)
          ∙ choose ns n (find_text t (drop (suc k) ns)) k (first_from (λ i. same t (f i)) left (suc k)) (same t (f k)) at ih

-- the rules find a text's name where the rows have it
pub find_rule : (image : List ℕ) (names_start : ℕ) (ns : List Name) (t : List ℕ) → InRows image names_start ns → length ns ≤ NONE
    → find_text t ns ≡ get_elem? ns (find_row image names_start (length ns) t)
unfolding find_row
find_rule image names_start ns t h few = find_told (row_text image names_start) t ns h few (length ns) 0 (omega arith)

-- a row that is found is there
pub find_below : (image : List ℕ) (names_start names : ℕ) (t : List ℕ) → (find_row image names_start names t ≡ NONE → ⊥) → find_row image names_start names t < names
unfolding find_row
find_below image names_start names t h = omega (arith, first_below (λ i. same t (row_text image names_start i)) names 0 h)

module _ (image : List ℕ) (names_start : ℕ) (schema : CompiledSchema) (h : InRows image names_start schema.names) (few : length schema.names ≤ NONE) where
  -- a qualified name's definition is that of the row found
  pub qualified_rule : (s x : ℕ) → s < length schema.names → x < length schema.names
      → lookup_qualified schema s x ≡ lookup schema (find_row image names_start (length schema.names) (qualified_text image names_start s x))
  unfolding lookup_qualified lookup then qualified_text
  qualified_rule s x a b =
      let m = there schema.names s a in
      let n = there schema.names x b in
      rw (m.1, n.1, h s m.0 m.1, h x n.0 n.1)
      (ap (λ (o : Option Name). then o definition_of) (find_rule image names_start schema.names (row_text image names_start s ++ 46 ∷ row_text image names_start x) h few))
