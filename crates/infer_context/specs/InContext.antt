-- What the code's context and table say of the rules' context.
use Rattle.std.specs.Prelude.{ℕ, ◌≡◌, List}
use Rattle.rules.specs.Syntax.{run}
use Rattle.rules.specs.Infer.{FunctionContext}
use Rattle.rules.specs.Good.{Stored}
use Rattle.image_words.specs.Stands.{Stands}
use Rattle.image_layout.specs.declared.Layout.{Layout}
use Rattle.image_layout.specs.Open.{pool_words}
use Rattle.locals.specs.Rows.{Rows}
use Rattle.message_fields.specs.Fields.{Fields}
use Rattle.infer_context.specs.declared.Context.{Context}

-- over the image, its layout and the table: x says the context c
pub record InContext (l : Layout) (names words lens : List ℕ) (x : Context) (c : FunctionContext) : Type 0 where
  pub function : x.function.0 ≡ c.function
  pub locals : Rows l.names.rows names words lens x.count 0 c.locals
  pub fields_end : ℕ
  pub fields : Fields l.names.rows (pool_words l) c.fields x.fields fields_end
  pub target_end : ℕ
  pub target : Stands (pool_words l) (run c.self_type) x.target target_end
  pub stored : Stored l.names.rows c.self_type

-- a property of every context that x says
abbrev pub AtContext : Layout → List ℕ → List ℕ → List ℕ → Context → (FunctionContext → Type 0) → Type 0
AtContext l names words lens x P = (c : FunctionContext) → InContext l names words lens x c → P c
