-- What the rules make of a Let.
use Rattle.std.specs.Prelude.{ℕ, List}
use Rattle.std.proofs.Math.Option.{Option}
use Rattle.rules.specs.Syntax.{ResolvedType, Expr}
use Rattle.rules.specs.Refusal.{Result, ok, ◌>>=◌}
use Rattle.rules.specs.Infer.{PortableExpr, type_of, FunctionContext, infer_expr}
use Rattle.rules.specs.Bodies.{PortableStatement, with_local}
use Rattle.rules.specs.Output.{statement_words}
use Rattle.project_let_tests.specs.LetTests.{no_local}

-- a typed statement, and the context of those behind it
abbrev pub Made : Type 0
Made = PortableStatement × FunctionContext

unfoldable pub made_let : FunctionContext → ℕ → Option ResolvedType → Expr → Result Made
made_let c x t e = do
  _ ← no_local c.function x c.locals
  value ← infer_expr c e t 3
  ok (PortableStatement.let_local x (type_of value) value, with_local c x (type_of value))

unfoldable pub let_words : ℕ → PortableExpr → List ℕ
let_words x v = statement_words (PortableStatement.let_local x (type_of v) v)
