-- A type read back from a row of a table: its note, and its words one by one. Assumes nothing.
use Prim.Native.Nat.{ℕ, ◌%◌, ◌≤◌}
use mathlib.Core.Path.{◌≡◌, ap, ◌∙◌}
use mathlib.Core.Bool.{Bool}
use mathlib.Core.List.{List}
use native.Mathlib.Omega.{arith}
use lib.ListN.{length, take}
use lib.Dec.{leb}
use Rattle.rules.specs.Syntax.{ResolvedType, run}
use Rattle.rules.specs.Types.{contains_poison}
use Rattle.rules.specs.Good.{Stored}
use Rattle.type_words.specs.Notes.{note}
use Rattle.type_words.specs.Holds.{Holds}
use Rattle.type_words.proofs.Runs.{counted}
use Rattle.type_words.proofs.Noted.{count_noted, poison_noted}
use Rattle.type_words.proofs.Trees.{holds}
use Rattle.type_from_pool.specs.Copies.{Copied}
use Rattle.type_from_pool.proofs.Copies.{copied_run}

-- w is the note of t, and n the count that it tells
module _ (names : ℕ) (t : ResolvedType) {w n : ℕ} (s : Stored names t) (e : w ≡ note (length (run t)) (contains_poison t)) (q : n ≡ w % 128) where
  count_read : n ≡ length (run t)
  count_read = count_noted (length (run t)) (contains_poison t) s.short e q

  pub few_read : n ≤ 64
  few_read = omega (arith, count_read, s.short)

  -- as many words as that, copied from where t's stand, are t
  pub type_read : (table : List ℕ) (at : ℕ) (words : List ℕ) (i : ℕ) {p : Bool} → length words ≡ 64 → n ≤ i → Copied table at words i → Copied table at (run t) (length (run t)) → p ≡ leb 128 w
      → Holds names (record { words = words; len = n; poison = p }) t
  type_read table at words i wide all copied stands told =
      holds names
      (counted words (run t) n wide few_read (ap (λ (k : ℕ). take k words) count_read ∙ copied_run table at words (run t) (omega (arith, wide, s.short)) (λ j h. copied j (omega (arith, count_read))) stands))
      (poison_noted (length (run t)) (contains_poison t) s.short e told)
      s.good
