-- Held trees: what the makers of held types give, as types of the rules. Assumes nothing.
use Prim.Native.Nat.{ℕ}
use mathlib.Core.Path.{◌≡◌, ap, ◌∙◌}
use mathlib.Core.Bool.{true, false}
use mathlib.Core.List.{List, [], ◌∷◌}
use lib.ListN.{length}
use lib.Dec.{leb, eqb}
use Rattle.rules.specs.Words.{NONE}
use Rattle.rules.specs.Syntax.{ResolvedType, run}
use Rattle.rules.specs.Types.{contains_poison}
use Rattle.rules.specs.Kinds.{type_kind}
use Rattle.rules.specs.declared.kinds.TypeKind.{TypeKind}
use Rattle.rules.specs.Good.{Good}
use Rattle.type_words.specs.declared.HeldType.{HeldType}
use Rattle.type_words.specs.Runs.{held_run, Runs, Made, Grows, Grown}
use Rattle.type_words.specs.Holds.{Holds}
use Rattle.type_words.proofs.Runs.{grows_at}

-- r holds the type t where its run has at most 64 words, and is not ok where it has more
pub record Built (names : ℕ) (r : Grown) (t : ResolvedType) : Type 0 where
  pub ok : r.ok ≡ leb (length (run t)) 64
  pub holds : r.ok ≡ true → Holds names r.ty t

-- a run of a good type, with what it says of poison, is the type held
pub holds : (names : ℕ) {h : HeldType} {t : ResolvedType} → Runs h (run t) → h.poison ≡ contains_poison t → Good names t → Holds names h t
holds names r p g = record { run = r.run; count = r.count; small = r.small; poison = p; good = g }

pub built : (names : ℕ) (t : ResolvedType) {r : Grown} → Grows (run t) r → r.ty.poison ≡ contains_poison t → Good names t → Built names r t
built names t g p good = record { ok = g.ok; holds = λ e. holds names (g.runs e) p good }

pub plain_holds : (names : ℕ) {h : HeldType} {c : ℕ} → Made h (c ∷ []) false → type_kind c ≡ TypeKind.Plain → Holds names h (ResolvedType.plain c)
plain_holds names r k = holds names (unfold run in r.runs) (unfold contains_poison in r.poison) k

pub named_holds : (names : ℕ) {h : HeldType} {n : ℕ} → Made h (48 ∷ n ∷ []) (eqb n NONE) → Holds names h (ResolvedType.named n)
named_holds names r = holds names (unfold run in r.runs) (unfold contains_poison in r.poison) tt

-- of a code or a fixed array around a type: poison is in it where it is in the type
module _ {names : ℕ} {h : HeldType} {t : ResolvedType} {r : Grown} (p : Holds names h t) (same : r.ty.poison ≡ h.poison) where
  pub one_built : {c : ℕ} → Grows (c ∷ held_run h) r → type_kind c ≡ TypeKind.One → Built names r (ResolvedType.one c t)
  unfolding run contains_poison
  one_built {c} g k = built names (ResolvedType.one c t) (grows_at g (ap (λ (l : List ℕ). c ∷ l) p.run)) (same ∙ p.poison) (k, p.good)

  pub fixed_built : {low high : ℕ} → Grows (66 ∷ low ∷ high ∷ held_run h) r → Built names r (ResolvedType.fixed low high t)
  unfolding run contains_poison
  fixed_built {low} {high} g =
      built names (ResolvedType.fixed low high t) (grows_at g (ap (λ (l : List ℕ). 66 ∷ low ∷ high ∷ l) p.run)) (same ∙ p.poison) p.good
