-- The rows of a table, as the rules' type parameters in view.
use Rattle.std.specs.Prelude.{ℕ, ◌+◌, ◌<◌, ◌≤◌, ◌≡◌, List, [], ◌∷◌, length, get_or}
use Rattle.rules.specs.Syntax.{ResolvedType, run, Param}
use Rattle.rules.specs.Types.{contains_poison}
use Rattle.rules.specs.Good.{Stored}
use Rattle.type_words.specs.declared.HeldType.{HeldType}
use Rattle.type_words.specs.Notes.{note}
use Rattle.type_words.specs.Holds.{Holds}
use Rattle.type_from_pool.specs.Copies.{Copied}

-- the row at `at`: the parameter's name, the note of its argument, and the argument's words
pub record Row (names : ℕ) (table : List ℕ) (at : ℕ) (p : Param ResolvedType) : Type 0 where
  pub inside : at + 66 ≤ length table
  pub name : get_or table at 0 ≡ p.name
  pub noted : get_or table (at + 1) 0 ≡ note (length (run p.ty)) (contains_poison p.ty)
  pub words : Copied table (at + 2) (run p.ty) (length (run p.ty))
  pub stored : Stored names p.ty

-- the rows from `at` to the end are these parameters, in order
abbrev pub Views : ℕ → List ℕ → ℕ → List (Param ResolvedType) → Type 0
Views names table at [] = length table ≡ at
Views names table at (p ∷ ps) = Row names table at p × Views names table (at + 66) ps

-- a row was written, and the words before it stayed
pub record Written (before after : List ℕ) (at x : ℕ) (h : HeldType) : Type 0 where
  pub size : length after ≡ length before
  pub kept : (j : ℕ) → j < at → get_or after j 0 ≡ get_or before j 0
  pub row : (names : ℕ) (t : ResolvedType) → Holds names h t → Row names after at (record { name = x; ty = t })
