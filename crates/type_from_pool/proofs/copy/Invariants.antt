-- `type_from_pool::copy` meets its contract. The loop's invariant: i words are copied, and passed to what tells nodes from other words. Assumes nothing.
use Prim.Native.Nat.{ℕ, ◌-◌, ◌≤◌}
use mathlib.Core.Path.{◌≡◌}
use mathlib.Core.List.{List}
use lib.ListN.{length}
use Rattle.image_words.specs.Verdict.{section_words}
use Rattle.image_words.specs.Stands.{Stands}
use Rattle.type_poison.specs.declared.Seen.{Seen}
use Rattle.type_poison.proofs.Passed.{Passed}
use Rattle.type_from_pool.specs.Copies.{Copied}
use Rattle.type_from_pool.proofs.copy.Given as goal

pub record Inv (ws : List ℕ) (at end n : ℕ) (words : List ℕ) (seen : Seen) (before i : ℕ) : Type 0 where
  pub within : i ≤ n
  pub few : n ≤ 64
  pub wide : length words ≡ 64
  pub copied : Copied ws at words i
  pub passed : (u : List ℕ) → Stands ws u at end → Passed u i before seen

abbrev pub invariant-loop-i : goal.invariant-loop-i
invariant-loop-i l = Inv (section_words l.pool) l.at l.end l.n l.words l.seen l.before l.i
