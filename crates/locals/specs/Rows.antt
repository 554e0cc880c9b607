-- The rows of the table, as the rules' locals.
use Rattle.std.specs.Prelude.{ℕ, ◌+◌, ◌*◌, ◌<◌, ◌≤◌, ◌≡◌, List, [], ◌∷◌, length, get_or}
use Rattle.std.proofs.Math.Option.{none, some}
use Rattle.rules.specs.Syntax.{ResolvedType, run, Param}
use Rattle.rules.specs.Types.{contains_poison}
use Rattle.rules.specs.Infer.{find_last}
use Rattle.rules.specs.Good.{Stored}
use Rattle.type_words.specs.Notes.{note}
use Rattle.type_from_pool.specs.Copies.{Copied}

-- over the number of name rows and the table: row i is a local's name, the note of its type, and the type's words
pub record Row (rows : ℕ) (names words lens : List ℕ) (i : ℕ) (p : Param ResolvedType) : Type 0 where
  pub few : i < 64
  pub name : get_or names i 0 ≡ p.name
  pub named : i < length names
  pub counted : i < length lens
  pub noted : get_or lens i 0 ≡ note (length (run p.ty)) (contains_poison p.ty)
  pub room : 64 * i + 64 ≤ length words
  pub words_at : Copied words (64 * i) (run p.ty) (length (run p.ty))
  pub stored : Stored rows p.ty

-- the rows from i up to the count are these locals, in order
abbrev pub Rows : ℕ → List ℕ → List ℕ → List ℕ → ℕ → ℕ → List (Param ResolvedType) → Type 0
Rows rows names words lens count i [] = i ≡ count
Rows rows names words lens count i (p ∷ ps) = Row rows names words lens i p × Rows rows names words lens count (i + 1) ps

-- r is the row of the last of this name, or no row
pub record Last (rows : ℕ) (names words lens : List ℕ) (count x : ℕ) (ps : List (Param ResolvedType)) (r : ℕ) : Type 0 where
  pub found : r < count → (p : Param ResolvedType) × Row rows names words lens r p × (find_last x ps ≡ some p.ty)
  pub missing : count ≤ r → find_last x ps ≡ none
