-- A statement's reader, opened by the code's facts: the word and its kind.
use Prim.Native.Nat.{ℕ}
use mathlib.Core.Path.{◌≡◌, sym}
use mathlib.Core.List.{List}
use lib.ListN.{get_or}
use Rattle.std.specs.Prelude.{Option, Some, None}
use Rattle.rules.specs.Reader.{word}
use Rattle.rules.specs.Kinds.{statement_kind}
use Rattle.rules.specs.ReadBodies.{statement_node, statement}
use Rattle.rules.specs.declared.kinds.StatementKind.{StatementKind}
use Rattle.image_words.specs.Verdict.{Says}
use Rattle.image_words.proofs.Says.{word_then, stop}

module _ (names strings : ℕ) {ws : List ℕ} {at : ℕ} where
  pub statement_stop : Says word ws at None → Says (statement names strings) ws at None
  unfolding statement
  statement_stop s = stop _ s

  pub statement_then : {n : ℕ} → Says word ws at (Some n) → {w : ℕ} → w ≡ get_or ws at 0 → {k : StatementKind} → k ≡ statement_kind w → {c : Option ℕ}
      → Says (statement_node names strings k) ws n c → Says (statement names strings) ws at c
  unfolding statement
  statement_then s e q h = word_then _ s e (rw (sym q) h)

pub ruleset statement_steps = (statement_stop, statement_then)
