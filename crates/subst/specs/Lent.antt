-- What the answers of the cycle's functions on lent words mean.
use Rattle.std.specs.Prelude.{ℕ, ◌+◌, ◌<◌, ◌≤◌, ◌≡◌, Bool, true, false, ◌⊎◌, List, [], ◌∷◌, ◌++◌, length, take}
use Rattle.rules.specs.Syntax.{ResolvedType, TypeExpr, Param, CompiledSchema, run}
use Rattle.rules.specs.Types.{contains_poison}
use Rattle.rules.specs.Substitute.{Counted, too_large, done}
use Rattle.rules.specs.Good.{Good}
use Rattle.laws.specs.Visits.{plain_depth}
use Rattle.image_layout.specs.declared.Layout.{Layout}
use Rattle.image_layout.specs.Open.{Open, pool_words}
use Rattle.type_words.specs.Runs.{Runs}
use Rattle.type_words.specs.Holds.{Holds}
use Rattle.type_from_pool.specs.Held.{ExprStands}
use Rattle.subst_names.specs.declared.generic.Alias.{Alias}
use Rattle.subst_leaves.specs.declared.Resolved.{Resolved}
use Rattle.subst_leaves.specs.Says.{Says}
use Rattle.subst_leaves.specs.Nodes.{At, Each}
use Rattle.subst.specs.declared.cycle.End.{End}

-- the answer with the words that were lent, and the place behind it
abbrev pub resolved_at : ℕ → End → List ℕ → Resolved
resolved_at next r words = record { next = next; left = r.left; ok = r.ok; ty = record { words = words; len = r.len; poison = r.poison } }

abbrev pub resolved : End → List ℕ → Resolved
resolved r words = resolved_at r.next r words

-- o's type stands behind the words `before`; of poison, what is in that type is told
pub record Added (names left n : ℕ) (o : Counted ResolvedType) (before words : List ℕ) (r : End) : Type 0 where
  pub visits : ℕ
  pub ty : ResolvedType
  pub is : o ≡ done visits ty
  pub next : r.next ≡ n
  pub spent : r.left + visits ≡ left
  pub runs : Runs (record { words = words; len = r.len; poison = r.poison }) (before ++ run ty)
  pub poison : r.poison ≡ contains_poison ty
  pub good : Good names ty

-- o passes a bound, or there is no room for it behind the words `before`
abbrev pub NoRoom : ℕ → List ℕ → Counted ResolvedType → Type 0
NoRoom left before too_large = Unit {0}
NoRoom left before (done v t) = (left < v) ⊎ (64 < length before + length (run t))

pub record Adds (names left n : ℕ) (o : Counted ResolvedType) (before words : List ℕ) (r : End) : Type 0 where
  pub ok : r.ok ≡ true → Added names left n o before words r
  pub no : r.ok ≡ false → NoRoom left before o

-- what holds of every answer, and what it means
pub record Lends (left : ℕ) (words : List ℕ) (r : End) (Means : Type 0) : Type 0 where
  pub falls : r.left ≤ left
  pub wide : length words ≡ 64
  pub means : Means

module _ (l : Layout) where
  -- the expression's words behind the first n
  abbrev pub Appends : ℕ → ℕ → List ℕ → List ℕ → ℕ → End → List ℕ → Type 0
  Appends at left params words n r words' =
      Lends left words' r (Each l at left params (resolved r words') (λ s f ps. (e : TypeExpr) (m : ℕ) → At l at left e m → Adds l.names.rows left m (plain_depth s f ps e) (take n words) words' r))

  -- the alias's target in the place of its argument, which is the first n words with what they say of poison; the place behind the alias is any, since the caller has it
  abbrev pub Expands : Alias → ℕ → List ℕ → ℕ → Bool → End → List ℕ → Type 0
  Expands alias left words n poison r words' =
      (r.next ≡ 0) × Lends left words' r
      ((s : CompiledSchema) → Open l s → (f : ℕ) → left ≤ f
      → (p : Param TypeExpr) → alias.param.0 ≡ p.name → (end : ℕ) → ExprStands l.names.rows (pool_words l) p.ty alias.target end
      → (t : ResolvedType) → Holds l.names.rows (record { words = words; len = n; poison = poison }) t
      → (next : ℕ) → Says l.names.rows left next (plain_depth s f (record { name = p.name; ty = t } ∷ []) p.ty) (resolved_at next r words'))
