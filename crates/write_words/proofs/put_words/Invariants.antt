-- `write_words::put_words` meets its contract. The loop's invariant: the first i words are written, and the next stands behind them. Assumes nothing.
use Prim.Native.Nat.{ℕ, ◌+◌, ◌-◌, ◌≤◌}
use mathlib.Core.Path.{◌≡◌}
use mathlib.Core.List.{List}
use lib.ListN.{length, take}
use Rattle.image_words.specs.Verdict.{section_words}
use Rattle.image_words.specs.Stands.{Stands}
use Rattle.write_words.specs.Written.{Written}
use Rattle.write_words.proofs.put_words.Given as goal

abbrev pub invariant-loop : goal.invariant-loop
invariant-loop l = (l.counter ≤ l.count) × (length l.out ≡ length l.initial.out) × ((ws : List ℕ) (n : ℕ) → Stands (section_words l.pool) ws l.at n → length ws ≡ l.count → (l.from ≡ l.at + l.counter) × Written l.limit l.to (take l.counter ws) l.initial.out l.next l.out)
