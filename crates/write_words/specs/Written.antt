-- Words written one after the other, as one run.
use Rattle.std.specs.Prelude.{ℕ, ◌+◌, ◌*◌, ◌≤◌, ◌≡◌, List, length}
use Rattle.words.specs.Puts.{puts}

-- the words ws from `to` on, below the limit, into xs: r is the place behind them and ys what stands then, if they end within a billion bytes
pub record Written (limit to : ℕ) (ws xs : List ℕ) (r : ℕ) (ys : List ℕ) : Type 0 where
  pub so : to + 4 * length ws ≤ 1000000000 → (r ≡ to + 4 * length ws) × (ys ≡ puts limit to ws xs)
