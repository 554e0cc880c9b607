-- What an answer with the visits left says of a substitution that is counted without a bound.
use Rattle.std.specs.Prelude.{ℕ, ◌+◌, ◌<◌, ◌≤◌, ◌≡◌, true, false}
use Rattle.rules.specs.Syntax.{ResolvedType}
use Rattle.rules.specs.Substitute.{Counted, too_large, done}
use Rattle.type_words.specs.Holds.{Holds}
use Rattle.subst_leaves.specs.declared.Resolved.{Resolved}

-- o passes a bound: a run on the way is too long, or the visits are more than are left
abbrev pub Fails : ℕ → Counted ResolvedType → Type 0
Fails left too_large = Unit {0}
Fails left (done v t) = left < v

-- the answer holds o's type, with o's visits taken off what was left
pub record Accepts (names left n : ℕ) (o : Counted ResolvedType) (r : Resolved) : Type 0 where
  pub visits : ℕ
  pub ty : ResolvedType
  pub is : o ≡ done visits ty
  pub next : r.next ≡ n
  pub spent : r.left + visits ≡ left
  pub holds : Holds names r.ty ty

-- the answer says o: ok with o's type, or not ok where o passes a bound
pub record Says (names left n : ℕ) (o : Counted ResolvedType) (r : Resolved) : Type 0 where
  pub ok : r.ok ≡ true → Accepts names left n o r
  pub no : r.ok ≡ false → Fails left o

-- what holds of every answer, and what it means
pub record Keeps (left : ℕ) (r : Resolved) (Means : Type 0) : Type 0 where
  pub falls : r.left ≤ left
  pub means : Means
