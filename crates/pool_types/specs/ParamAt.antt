-- A name with its type stands where its name does, and the type behind it.
use Rattle.std.specs.Prelude.{ℕ, ◌+◌, ◌<◌, List}
use Rattle.rules.specs.Syntax.{Param}
use Rattle.image_words.specs.Gives.{Word}

pub record ParamAt {A : Type 0} (names : ℕ) (ws : List ℕ) (Q : A → ℕ → ℕ → Type 0) (p : Param A) (at n : ℕ) : Type 0 where
  pub name_at : Word ws at p.name
  pub name_below : p.name < names
  pub type_at : Q p.ty (at + 1) n
