-- The place behind an implementation's type arguments. Assumes nothing.
use Prim.Native.Nat.{ℕ, ◌+◌}
use mathlib.Core.Path.{◌≡◌, sym, ◌∙◌}
use mathlib.Core.List.{List, [], ◌∷◌}
use lib.ListN.{length, get_or}
use Rattle.rules.specs.Syntax.{ResolvedType, TypeExpr}
use Rattle.image_words.specs.Gives.{Row, Counted}
use Rattle.pool_types.specs.TypeAt.{TypeStands}
use Rattle.pool_type_exprs.specs.TypeExprAt.{TypeExprAt}
use Rattle.skip_types.specs.Pending.{Pending}
use Rattle.skip_types.proofs.Pending.{none_left, more_left, numbered, moved}

module _ (names : ℕ) (ws : List ℕ) where
  types_row : (ts : List ResolvedType) (at n : ℕ) → Row (TypeStands names ws) ts at n → Pending (TypeExprAt names ws) (length ts) at n
  types_row [] at n r = none_left (sym r)
  types_row (t ∷ ts) at n r = more_left (TypeExpr.leaf t) r.0 r.1.parts (types_row ts r.0 n r.2)

  -- from the code's count and place, which are the same
  pub types_left : (ts : List ResolvedType) (at n : ℕ) → Counted ws 8 (TypeStands names ws) ts at n → (count : ℕ) → count ≡ get_or ws at 0 → (place : ℕ) → place ≡ at + 1 → Pending (TypeExprAt names ws) count place n
  types_left ts at n h count e place q = moved place q (numbered count (e ∙ h.0.is) (types_row ts (at + 1) n h.2))
