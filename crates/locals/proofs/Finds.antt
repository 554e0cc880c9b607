-- What a search from the last row down finds.
use Prim.Native.Nat.{ℕ, ◌+◌, ◌<◌, ◌≤◌}
use native.Mathlib.Omega.{arith}
use native.Mathlib.Decide.{dec_le}
use mathlib.Core.Path.{◌≡◌, refl, sym, subst, ◌∙◌}
use mathlib.Core.Bool.{true, false}
use mathlib.Core.List.{List, [], ◌∷◌}
use mathlib.Core.Option.{none, some}
use lib.ListN.{length, get_or, take}
use lib.Seq.{get_or-take, length-take-le}
use Rattle.std.specs.Prelude.{◌≢◌, Option, Some, None, IsNone, IfSome, unwrap_or}
use Rattle.std.specs.List.{AllWithin, HoldsAt}
use borrow.Author.Tests.{eq-eqb, ne_eqb}
use Rattle.rules.specs.Syntax.{ResolvedType, Param}
use Rattle.rules.specs.Options.{or_else}
use Rattle.rules.specs.Infer.{find_last}
use Rattle.type_words.specs.declared.HeldType.{HeldType}
use Rattle.type_words.specs.declared.MaybeType.{MaybeType}
use Rattle.type_words.specs.Holds.{Holds, MaybeHolds}
use Rattle.locals.specs.Rows.{Row, Rows, Last}

-- the first of some names, by what the others give
pub last_here : (x : ℕ) (p : Param ResolvedType) (ps : List (Param ResolvedType)) → find_last x ps ≡ none → x ≡ p.name → find_last x (p ∷ ps) ≡ some p.ty
unfolding find_last or_else
last_here x p ps e q = rw (e, eq-eqb x p.name q)

pub last_none : (x : ℕ) (p : Param ResolvedType) (ps : List (Param ResolvedType)) → find_last x ps ≡ none → (x ≡ p.name → ⊥) → find_last x (p ∷ ps) ≡ none
unfolding find_last or_else
last_none x p ps e q = rw (e, ne_eqb x p.name q)

pub last_later : (x : ℕ) (p : Param ResolvedType) (ps : List (Param ResolvedType)) (t : ResolvedType) → find_last x ps ≡ some t → find_last x (p ∷ ps) ≡ some t
unfolding find_last or_else
last_later x p ps t e = rw e

-- no row from i on has the name x
abbrev pub Apart : List ℕ → ℕ → ℕ → ℕ → Type 0
Apart names count x i = (k : ℕ) → i ≤ k → k < count → get_or names k 0 ≡ x → ⊥

module _ (rows : ℕ) (names words lens : List ℕ) (count x : ℕ) where
  pub inside : (i : ℕ) (ps : List (Param ResolvedType)) → Rows rows names words lens count i ps → i ≤ count → (count ≡ i → ⊥) → count ≤ length names
  inside i [] w l n = absurd (n (sym w))
  inside i (p ∷ []) w l n = omega (arith, w.1, w.0.named)
  inside i (p ∷ q ∷ ps) w l n = inside (i + 1) (q ∷ ps) w.1 (omega (arith, w.0.named)) (λ e. above (i + 1 + 1) ps w.1.1 (omega arith))
    where
      above : (j : ℕ) (qs : List (Param ResolvedType)) → Rows rows names words lens count j qs → count < j → ⊥
      above j [] v h = omega arith
      above j (q ∷ qs) v h = above (j + 1) qs v.1 (omega arith)

  -- none is there
  pub none_last : (i : ℕ) (ps : List (Param ResolvedType)) → Rows rows names words lens count i ps → Apart names count x i → find_last x ps ≡ none
  unfolding find_last
  none_last i [] w a = refl
  none_last i (p ∷ ps) w a =
      last_none x p ps (none_last (i + 1) ps w.1 (λ k l m. a k (omega arith) m)) (λ e. a i (omega arith) (below i ps w.1) (w.0.name ∙ sym e))
    where
      below : (j : ℕ) (qs : List (Param ResolvedType)) → Rows rows names words lens count (j + 1) qs → j < count
      below j [] v = omega arith
      below j (q ∷ qs) v = let h : j + 1 < count = below (j + 1) qs v.1 in omega arith

  -- the row k has the name, and none behind it
  pub at_last : (i : ℕ) (ps : List (Param ResolvedType)) → Rows rows names words lens count i ps → (k : ℕ) → i ≤ k → k < count → get_or names k 0 ≡ x → Apart names count x (k + 1)
      → (p : Param ResolvedType) × Row rows names words lens k p × (find_last x ps ≡ some p.ty)
  at_last i [] w k l m e a = absurd (omega arith)
  at_last i (p ∷ ps) w k l m e a = go (dec_le k i) (λ h. at_last (i + 1) ps w.1 k h m e a)
    where
      go : Dec (k ≤ i) → (i + 1 ≤ k → (q : Param ResolvedType) × Row rows names words lens k q × (find_last x ps ≡ some q.ty))
          → (q : Param ResolvedType) × Row rows names words lens k q × (find_last x (p ∷ ps) ≡ some q.ty)
      go (yes h) later =
          let q : i ≡ k = omega arith in
          let b : Row rows names words lens k p = subst (λ (j : ℕ). Row rows names words lens j p) q w.0 in
          (p, b, last_here x p ps (none_last (i + 1) ps w.1 (λ j l. a j (omega arith))) (sym e ∙ b.name))
      go (no h) later =
          let r = later (omega arith) in
          (r.0, r.1, last_later x p ps r.0.ty r.2)

  -- what the search answers
  pub search_found : (ps : List (Param ResolvedType)) → Rows rows names words lens count 0 ps → (k : ℕ) → k < count → get_or names k 0 ≡ x → Apart names count x (k + 1) → Last rows names words lens count x ps k
  search_found ps w k m e a = record { found = λ _. at_last 0 ps w k (omega arith) m e a; missing = λ h. absurd (omega arith) }

  pub search_none : (ps : List (Param ResolvedType)) → Rows rows names words lens count 0 ps → Apart names count x 0 → Last rows names words lens count x ps count
  search_none ps w a = record { found = λ h. absurd (omega arith); missing = λ _. none_last 0 ps w a }

  -- a table with fewer names than the count has no rows, and the count is 0
  pub short : (ps : List (Param ResolvedType)) → Rows rows names words lens count 0 ps → length names < count → ⊥
  short ps w l = let h : count ≤ length names = inside 0 ps w (omega arith) (λ e. omega arith) in omega arith

  -- of the first count names, by the last place that code found
  pub searched : (ps : List (Param ResolvedType)) → Rows rows names words lens count 0 ps → count ≤ length names → (o : Option ℕ)
      → (IsNone o → AllWithin (λ (n : ℕ). n ≢ x) (take count names) 0 (length (take count names)))
      → IfSome o (λ i. (i < length (take count names)) × HoldsAt (λ (n : ℕ). n ≡ x) (take count names) i × AllWithin (λ (n : ℕ). n ≢ x) (take count names) (i + 1) (length (take count names)))
      → {r : ℕ} → r ≡ unwrap_or o count → Last rows names words lens count x ps r
  searched ps w l None gone there e =
      let n : length (take count names) ≡ count = length-take-le count names l in
      rw e (search_none ps w (λ k g h m. gone refl k 0 (omega arith) (omega (arith, n)) (get_or-take count names k 0 h ∙ m)))
  searched ps w l (Some i) gone there e =
      let n : length (take count names) ≡ count = length-take-le count names l in
      let h : i < count = omega (arith, n, there.0) in
      rw e (search_found ps w i h (sym (get_or-take count names i 0 h) ∙ there.1 0) (λ k g h m. there.2 k 0 g (omega (arith, n)) (get_or-take count names k 0 h ∙ m)))

-- the type of the last, held or none
module _ {rows : ℕ} {names words lens : List ℕ} {count x : ℕ} {ps : List (Param ResolvedType)} {r : ℕ} (w : Last rows names words lens count x ps r) (m : MaybeType) where
  pub held_last : r < count → (h : HeldType) → (m.some ≡ true) × (m.ty ≡ h) → ((p : Param ResolvedType) → Row rows names words lens r p → Holds rows h p.ty) → MaybeHolds rows m (find_last x ps)
  held_last l h s f = let q = w.found l in rw q.2 (s.0, rw s.1 (f q.0 q.1))

  pub held_none : count ≤ r → m.some ≡ false → MaybeHolds rows m (find_last x ps)
  held_none l s = rw (w.missing l) s
