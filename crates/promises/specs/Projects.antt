-- An implementation of an image that the rules accept.
use Rattle.std.specs.Prelude.{ℕ, ◌<◌, ◌≡◌, List, get_or}
use Rattle.std.proofs.Math.Option.{some}
use Rattle.rules.specs.Syntax.{ImplDef, CompiledSchema}
use Rattle.rules.specs.Refusal.{ok}
use Rattle.rules.specs.Image.{readable}
use Rattle.rules.specs.Bodies.{PortableFunction}
use Rattle.rules.specs.Project.{find_implementation, project_impl}

-- every element is a byte, as in a list that a &[u8] holds; past the end it counts as 0
abbrev pub Bytes : List ℕ → Type 0
Bytes xs = (i : ℕ) → get_or xs i 0 < 256

-- the image is readable, its row is this implementation, and it projects to these typed functions
pub record Projects (image : List ℕ) (row : ℕ) (impl : ImplDef) (functions : List PortableFunction) : Type 0 where
  pub schema : CompiledSchema
  pub visits : ℕ
  pub is_schema : readable image ≡ some schema
  pub is_impl : find_implementation schema row ≡ ok impl
  pub is_projected : project_impl schema impl ≡ ok (visits, functions)
