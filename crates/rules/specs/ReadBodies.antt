-- Expressions, statements and bodies in the pool, with their bounds.
use Rattle.std.specs.Prelude.{ℕ, zero, suc, ◌+◌, cond, List, [], ◌∷◌, leb, eqb}
use Rattle.rules.specs.Syntax.{Expr, Exprs, Statement, FnBody}
use Rattle.rules.specs.Reader.{Reader, ◌>>=◌, give, fail, rule, word, below, repeat, many, maybe}
use Rattle.rules.specs.Kinds.{expr_kind, statement_kind}
use Rattle.rules.specs.ReadTypes.{name, wide, resolved_type}
use Rattle.rules.specs.declared.kinds.ExprKind.{ExprKind}
use Rattle.rules.specs.declared.kinds.StatementKind.{StatementKind}

-- n expressions
abbrev pub exprs : ℕ → Reader Expr → Reader Exprs
exprs n r = repeat Exprs.nil Exprs.cons n r

-- how many Lets stand in a body
unfoldable pub let_count : Statement → ℕ
let_count (Statement.expr e) = 0
let_count (Statement.let_local x t e) = 1
let_count (Statement.return v) = 0
let_count (Statement.assign t e) = 0

unfoldable pub lets : List Statement → ℕ
lets [] = 0
lets (s ∷ ss) = let_count s + lets ss

-- over the number of name rows and of string rows
module _ (names strings : ℕ) where
  -- an expression behind its code; its parts by `part`
  unfoldable pub expr_node : Reader Expr → ExprKind → ℕ → Reader Expr
  expr_node part ExprKind.Literal c = do
    n ← wide
    give (Expr.literal c n.0 n.1)
  expr_node part ExprKind.Flag c = do
    b ← below 2
    give (Expr.bool b)
  expr_node part ExprKind.Text c = do
    s ← below strings
    give (Expr.string s)
  expr_node part ExprKind.Local c = do
    n ← name names
    give (Expr.local n)
  expr_node part ExprKind.SelfRef c = give Expr.self_ref
  expr_node part ExprKind.FieldAccess c = do
    n ← name names
    e ← part
    give (Expr.field_access n e)
  expr_node part ExprKind.Call c = do
    n ← name names
    count ← below 33
    es ← exprs count part
    give (Expr.call n es)
  expr_node part ExprKind.TraitMethodCall c = do
    t ← name names
    m ← name names
    count ← below 33
    e ← part
    es ← exprs count part
    give (Expr.trait_method_call t m e es)
  expr_node part ExprKind.Binary c = do
    op ← below 10
    l ← part
    r ← part
    give (Expr.binary op l r)
  expr_node part ExprKind.Unary c = do
    op ← below 2
    e ← part
    give (Expr.unary op e)
  expr_node part ExprKind.Unknown c = fail

  unfoldable pub expr_tree : ℕ → Reader Expr
  expr_tree zero = fail
  expr_tree (suc nesting) = do
    c ← word
    expr_node (expr_tree nesting) (expr_kind c) c

  -- an expression's nesting is at most 32
  unfoldable pub expression : Reader Expr
  expression = expr_tree 32

  unfoldable pub statement_node : StatementKind → Reader Statement
  statement_node StatementKind.Expr = do
    e ← expression
    give (Statement.expr e)
  statement_node StatementKind.Let = do
    n ← name names
    t ← maybe (resolved_type names)
    e ← expression
    give (Statement.let_local n t e)
  statement_node StatementKind.Return = do
    v ← maybe expression
    give (Statement.return v)
  statement_node StatementKind.Assign = do
    t ← expression
    e ← expression
    give (Statement.assign t e)
  statement_node StatementKind.Unknown = fail

  unfoldable pub statement : Reader Statement
  statement = do
    c ← word
    statement_node (statement_kind c)

  -- at most 256 statements, at most 32 of them Lets
  unfoldable pub block : Reader FnBody
  block = do
    ss ← many 256 statement
    _ ← rule (leb (lets ss) 32)
    give (FnBody.block ss)

  -- 0 External, or 1 and a block
  unfoldable pub body : Reader FnBody
  body = do
    c ← below 2
    cond (eqb c 0) (give FnBody.external) block
