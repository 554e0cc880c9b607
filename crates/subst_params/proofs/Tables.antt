-- A table filled row by row, of which the filled part is lent.
use Prim.Native.Nat.{ℕ, ◌+◌, ◌≤◌}
use mathlib.Core.Path.{◌≡◌, sym, subst, ◌∙◌}
use mathlib.Core.List.{List, [], ◌∷◌, ◌++◌}
use native.Mathlib.Omega.{arith}
use lib.ListN.{length, take, length-take}
use lib.Seq.{get_or-take}
use Rattle.rules.specs.Syntax.{ResolvedType, Param}
use Rattle.type_words.specs.declared.HeldType.{HeldType}
use Rattle.type_words.specs.Holds.{Holds}
use Rattle.subst_params.specs.Views.{Row, Views, Written}

-- the rows from `at` up to n are these parameters, in order
abbrev pub RowsTo : ℕ → List ℕ → ℕ → ℕ → List (Param ResolvedType) → Type 0
RowsTo names table n at [] = at ≡ n
RowsTo names table n at (p ∷ ps) = Row names table at p × RowsTo names table n (at + 66) ps

module _ (names : ℕ) (table : List ℕ) (n : ℕ) where
  in_order : (at : ℕ) (ps : List (Param ResolvedType)) → RowsTo names table n at ps → at ≤ n
  in_order at [] w = omega arith
  in_order at (p ∷ ps) w = let l = in_order (at + 66) ps w.1 in omega arith

  row_taken : (at : ℕ) (p : Param ResolvedType) → Row names table at p → at + 66 ≤ n → Row names (take n table) at p
  row_taken at p r l = record {
    inside = omega (arith, length-take n table, r.inside);
    name = get_or-take n table at 0 (omega arith) ∙ r.name;
    noted = get_or-take n table (at + 1) 0 (omega arith) ∙ r.noted;
    words = λ j k. r.words j k ∙ sym (get_or-take n table (at + 2 + j) 0 (omega (arith, r.stored.short)));
    stored = r.stored;
  }

  -- the filled part, lent, is a view of them
  pub views_taken : n ≤ length table → (at : ℕ) (ps : List (Param ResolvedType)) → RowsTo names table n at ps → Views names (take n table) at ps
  views_taken l at [] w = omega (arith, length-take n table)
  views_taken l at (p ∷ ps) w = (row_taken at p w.0 (in_order (at + 66) ps w.1), views_taken l (at + 66) ps w.1)

-- another row behind them
module _ (names : ℕ) (before after : List ℕ) (n x : ℕ) (h : HeldType) (w : Written before after n x h) where
  row_kept : (at : ℕ) (p : Param ResolvedType) → Row names before at p → at + 66 ≤ n → Row names after at p
  row_kept at p r l = record {
    inside = omega (arith, w.size, r.inside);
    name = w.kept at (omega arith) ∙ r.name;
    noted = w.kept (at + 1) (omega arith) ∙ r.noted;
    words = λ j k. r.words j k ∙ sym (w.kept (at + 2 + j) (omega (arith, r.stored.short)));
    stored = r.stored;
  }

  pub rows_more : (t : ResolvedType) → Holds names h t → (at : ℕ) (ps : List (Param ResolvedType)) → RowsTo names before n at ps
      → RowsTo names after (n + 66) at (ps ++ record { name = x; ty = t } ∷ [])
  rows_more t p at [] e = (subst (λ (i : ℕ). Row names after i (record { name = x; ty = t })) (sym e) (w.row names t p), omega arith)
  rows_more t p at (q ∷ ps) r = (row_kept at q r.0 (in_order names before n (at + 66) ps r.1), rows_more t p (at + 66) ps r.1)
