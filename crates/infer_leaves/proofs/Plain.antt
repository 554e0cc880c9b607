-- Bool, String and Void, held.
use Prim.Native.Nat.{ℕ}
use mathlib.Core.Bool.{false}
use mathlib.Core.List.{[], ◌∷◌}
use lib.Dec.{lit<, lit≤}
use Rattle.rules.specs.Types.{BOOL, STRING, VOID}
use Rattle.type_words.specs.declared.HeldType.{HeldType}
use Rattle.type_words.specs.Runs.{Made}
use Rattle.type_words.specs.Holds.{Holds}
use Rattle.type_words.proofs.Trees.{plain_holds}
use Rattle.codes.proofs.Codes.{primitive_in, semantic_in}

module _ (names : ℕ) {h : HeldType} where
  pub bool_held : Made h (0 ∷ []) false → Holds names h BOOL
  bool_held r = plain_holds names r (primitive_in 0 (lit< tt))

  pub void_held : Made h (13 ∷ []) false → Holds names h VOID
  void_held r = plain_holds names r (primitive_in 13 (lit< tt))

  pub string_held : Made h (32 ∷ []) false → Holds names h STRING
  string_held r = plain_holds names r (semantic_in 32 (lit≤ tt) (lit< tt))
