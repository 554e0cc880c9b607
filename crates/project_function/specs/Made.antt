-- What the rules make of a body, as words.
use Rattle.std.specs.Prelude.{ℕ, List}
use Rattle.std.proofs.Math.Option.{Option}
use Rattle.rules.specs.Syntax.{ResolvedType, Statement, FnBody}
use Rattle.rules.specs.Refusal.{Result, ok, err, ◌>>=◌, in_function}
use Rattle.rules.specs.Infer.{FunctionContext}
use Rattle.rules.specs.Bodies.{project_statements, block_of}
use Rattle.rules.specs.Output.{statement_words, listed}
use Rattle.project_statement.specs.Made.{made_assign}
use Rattle.project_let.specs.Made.{Made, made_let}

-- a body's typed statements: their count, and each one's words
unfoldable pub body_words_of : FunctionContext → Option ResolvedType → FnBody → Result (List ℕ)
body_words_of c o b = block_of c.function b >>= λ ss. project_statements o c ss >>= λ ps. ok (listed statement_words ps)

-- a property of what a statement is made to that is no Return: a Return ends the statements
abbrev pub Passing : FunctionContext → Statement → (Result Made → Type 0) → Type 0
Passing c (Statement.expr e) P = P (err (in_function 15 c.function))
Passing c (Statement.let_local x t e) P = P (made_let c x t e)
Passing c (Statement.return v) P = Unit {0}
Passing c (Statement.assign t e) P = P (made_assign c t e >>= λ p. ok (p, c))
