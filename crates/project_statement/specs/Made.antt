-- What the rules make of each statement, as words.
use Rattle.std.specs.Prelude.{ℕ, List}
use Rattle.std.proofs.Math.Option.{Option, some}
use Rattle.rules.specs.Syntax.{ResolvedType, Expr, Statement}
use Rattle.rules.specs.Refusal.{Result, ok, ◌>>=◌, or_refuse, with_name}
use Rattle.rules.specs.Infer.{FunctionContext, find_last, place, infer_expr}
use Rattle.rules.specs.Bodies.{PortableStatement, assigned_field, project_statements}
use Rattle.rules.specs.Output.{value_words, statement_words, each}

-- the typed statements' words
unfoldable pub block_words : Option ResolvedType → FunctionContext → List Statement → Result (List ℕ)
block_words o c ss = project_statements o c ss >>= λ ps. ok (each statement_words ps)

-- an expression's typed value, as words
unfoldable pub value_of : FunctionContext → Expr → Option ResolvedType → ℕ → Result (List ℕ)
value_of c e o context = infer_expr c e o context >>= λ v. ok (value_words v)

-- an assignment's typed statement, and its words
unfoldable pub made_assign : FunctionContext → Expr → Expr → Result PortableStatement
made_assign c target e = do
  f ← assigned_field c.function (place target)
  t ← or_refuse (find_last f c.fields) (with_name 17 c.function f)
  value ← infer_expr c e (some t) 5
  ok (PortableStatement.assign_self_field f value)

unfoldable pub assign_words : FunctionContext → Expr → Expr → Result (List ℕ)
assign_words c target e = made_assign c target e >>= λ p. ok (statement_words p)
