-- A row at a time: an implementation ends the search, any other row passes it on. Assumes nothing.
use Prim.Native.Nat.{ℕ, zero, suc, ◌<◌, ◌≤◌}
use mathlib.Core.Path.{◌≡◌, refl, sym, ◌∙◌}
use mathlib.Core.Bool.{Bool, true, false}
use mathlib.Core.List.{List, [], ◌∷◌}
use mathlib.Core.Option.{Option as Maybe, none, some}
use native.Mathlib.Omega.{arith}
use lib.ListN.{length, drop, get_elem?}
use Rattle.std.specs.Prelude.{Option, Some, None, MatchOption}
use Rattle.std.specs.Option as there
use Rattle.rules.specs.Syntax.{TypeDef, CompiledSchema}
use Rattle.rules.specs.Options.{or, then, is_some}
use Rattle.rules.specs.Substitute.{get}
use Rattle.rules.specs.Image.{readable}
use Rattle.rules.specs.Project.{as_implementation}
use Rattle.rules.specs.Projone.{lowest_from, lowest_implementation}
use Rattle.image_words.proofs.Steps.{true_false}
use Rattle.image_layout.specs.declared.Layout.{Layout}
use Rattle.image_layout.specs.Open.{Open}
use Rattle.impl_rows.specs.Found.{Agrees, Finds}

-- what a look at a row answers
found : {A : Type 0} (Q : A → ℕ → ℕ → Type 0) (o : Maybe A) (r : Option ℕ) → Agrees Q o r → there.is_some r ≡ is_some o
unfolding is_some
found Q none None a = refl
found Q none (Some n) a = absurd cc
found Q (some x) None a = absurd a
found Q (some x) (Some n) a = refl

pub finds : {A : Type 0} {Q : A → ℕ → ℕ → Type 0} {o : Maybe A} {r : Option ℕ} → Finds Q o r → there.is_some r ≡ is_some o
finds {Q = Q} {o} {r} f = found Q o r f.is

pub here : (ds : List TypeDef) (k row : ℕ) → is_some (then (get_elem? ds k) as_implementation) ≡ true → lowest_from row (drop k ds) ≡ row
unfolding lowest_from then is_some as_implementation
here [] k row h = absurd (true_false (sym h))
here (TypeDef.other ∷ ds) zero row h = absurd (true_false (sym h))
here (TypeDef.message m ∷ ds) zero row h = absurd (true_false (sym h))
here (TypeDef.generic_alias a ∷ ds) zero row h = absurd (true_false (sym h))
here (TypeDef.trait t ∷ ds) zero row h = absurd (true_false (sym h))
here (TypeDef.implementation i ∷ ds) zero row h = refl
here (d ∷ ds) (suc k) row h = here ds k row h

pub passed : (ds : List TypeDef) (k row : ℕ) → k < length ds → is_some (then (get_elem? ds k) as_implementation) ≡ false → lowest_from row (drop k ds) ≡ lowest_from (suc row) (drop (suc k) ds)
unfolding lowest_from then is_some as_implementation
passed [] k row l h = absurd (omega arith)
passed (TypeDef.other ∷ ds) zero row l h = refl
passed (TypeDef.message m ∷ ds) zero row l h = refl
passed (TypeDef.generic_alias a ∷ ds) zero row l h = refl
passed (TypeDef.trait t ∷ ds) zero row l h = refl
passed (TypeDef.implementation i ∷ ds) zero row l h = absurd (true_false h)
passed (d ∷ ds) (suc k) row l h = passed ds k row (omega arith) h

pub ended : (ds : List TypeDef) (k row : ℕ) → length ds ≤ k → lowest_from row (drop k ds) ≡ 0
unfolding lowest_from
ended [] zero row l = refl
ended [] (suc k) row l = refl
ended (d ∷ ds) zero row l = absurd (omega arith)
ended (d ∷ ds) (suc k) row l = ended ds k row (omega arith)

-- rows that were passed
skipped : (ds : List TypeDef) (n : ℕ) → n ≤ length ds → ((k : ℕ) → 0 ≤ k → k < n → is_some (then (get_elem? ds k) as_implementation) ≡ false) → lowest_from 0 ds ≡ lowest_from n (drop n ds)
skipped ds zero b h = refl
skipped ds (suc n) b h = skipped ds n (omega arith) (λ k low high. h k low (omega arith)) ∙ passed ds n n (omega arith) (h n (omega arith) (omega arith))

module _ (l : Layout) where
  -- whether an implementation stands in a row
  abbrev pub Stands : Bool → ℕ → Type 0
  Stands b k = (s : CompiledSchema) → Open l s → is_some (then (get s k) as_implementation) ≡ b

  -- what a search along the rows finds
  pub first : (r : Option ℕ)
      → MatchOption r ((k : ℕ) → 0 ≤ k → k < l.definitions.rows → Stands false k) (λ i. (0 ≤ i) × (i < l.definitions.rows) × Stands true i × ((k : ℕ) → 0 ≤ k → k < i → Stands false k))
      → (s : CompiledSchema) → Open l s → there.unwrap_or r 0 ≡ lowest_from 0 s.definitions
  first None m s o =
      let n = length s.definitions in
      sym (skipped s.definitions n (omega arith) (λ k low high. m k low (omega (arith, o.definitions)) s o) ∙ ended s.definitions n n (omega arith))
  first (Some i) m s o = sym (skipped s.definitions i (omega (arith, o.definitions, m.1)) (λ k low high. m.3 k low high s o) ∙ here s.definitions i i (m.2 s o))

-- the image's row, by what it reads to
pub unreadable : (image : List ℕ) → readable image ≡ none → lowest_implementation image ≡ 0
unfolding lowest_implementation then or
unreadable image e = rw e

pub when_readable : (image : List ℕ) {s : CompiledSchema} → readable image ≡ some s → lowest_implementation image ≡ lowest_from 0 s.definitions
unfolding lowest_implementation then or
when_readable image e = rw e
