-- What stands at a place among words: a word, a number below a bound, things one behind the other, a count and so many, 0 or 1 and a thing.
use Rattle.std.specs.Prelude.{ℕ, ◌+◌, ◌<◌, ◌≤◌, ◌≡◌, List, [], ◌∷◌, length, get_or}
use Rattle.std.proofs.Math.Option.{Option, none, some}

-- the word w stands at `at`
pub record Word (ws : List ℕ) (at w : ℕ) : Type 0 where
  pub inside : at < length ws
  pub is : get_or ws at 0 ≡ w

-- a word under a limit: a name, a string
abbrev pub BelowAt : List ℕ → ℕ → ℕ → ℕ → ℕ → Type 0
BelowAt ws limit w at n = Word ws at w × (w < limit) × (n ≡ at + 1)

-- things one behind the other from `at`, each by Q; they end before n
abbrev pub Row : {A : Type 0} → (A → ℕ → ℕ → Type 0) → List A → ℕ → ℕ → Type 0
Row Q [] at n = at ≡ n
Row Q (x ∷ xs) at n = (m : ℕ) × Q x at m × Row Q xs m n

-- their number, at most `most`, stands before them
abbrev pub Counted : {A : Type 0} → List ℕ → ℕ → (A → ℕ → ℕ → Type 0) → List A → ℕ → ℕ → Type 0
Counted ws most Q xs at n = Word ws at (length xs) × (length xs ≤ most) × Row Q xs (at + 1) n

-- 0, or 1 and something by Q
abbrev pub MaybeAt : {A : Type 0} → List ℕ → (A → ℕ → ℕ → Type 0) → Option A → ℕ → ℕ → Type 0
MaybeAt ws Q none at n = Word ws at 0 × (n ≡ at + 1)
MaybeAt ws Q (some a) at n = Word ws at 1 × Q a (at + 1) n
