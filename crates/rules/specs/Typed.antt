-- Typed functions as a projection gives them: what holds of each, and a reader that gives them back from their words.
use Rattle.std.specs.Prelude.{ℕ, zero, suc, ◌≤◌, ◌<◌, max}
use Rattle.rules.specs.Syntax.{ResolvedType, Param}
use Rattle.rules.specs.Reader.{Reader, ◌>>=◌, give, fail, word, many, maybe}
use Rattle.rules.specs.Kinds.{expr_kind, statement_kind}
use Rattle.rules.specs.ReadTypes.{wide, resolved_type}
use Rattle.rules.specs.Signatures.{PortableSignature}
use Rattle.rules.specs.Infer.{PortableExpr, PortableExprKind, typed}
use Rattle.rules.specs.Bodies.{PortableStatement, PortableFunction}
use Rattle.rules.specs.declared.kinds.ExprKind.{ExprKind}
use Rattle.rules.specs.declared.kinds.StatementKind.{StatementKind}
use Rattle.rules.specs.Good.{AllOption, Stored}
use Rattle.rules.specs.Exact.{Few}

-- how deep a typed expression nests; a leaf is 1
abbrev mutual
  pub typed_nesting : PortableExpr → ℕ
  typed_nesting (typed t k) = suc (kind_nesting k)

  pub kind_nesting : PortableExprKind → ℕ
  kind_nesting (PortableExprKind.literal c low high) = 0
  kind_nesting (PortableExprKind.bool b) = 0
  kind_nesting (PortableExprKind.string s) = 0
  kind_nesting (PortableExprKind.local x) = 0
  kind_nesting PortableExprKind.self_ref = 0
  kind_nesting (PortableExprKind.self_field f) = 0
  kind_nesting (PortableExprKind.binary op l r) = max (typed_nesting l) (typed_nesting r)
  kind_nesting (PortableExprKind.unary op e) = typed_nesting e

-- over the number of name rows
module _ (names : ℕ) where
  -- every type is one that the pool could hold, and a literal is Int, UInt or Float
  abbrev mutual
    pub TypedValue : PortableExpr → Type 0
    TypedValue (typed t k) = Stored names t × TypedKind k

    pub TypedKind : PortableExprKind → Type 0
    TypedKind (PortableExprKind.literal c low high) = c < 3
    TypedKind (PortableExprKind.bool b) = Unit {0}
    TypedKind (PortableExprKind.string s) = Unit {0}
    TypedKind (PortableExprKind.local x) = Unit {0}
    TypedKind PortableExprKind.self_ref = Unit {0}
    TypedKind (PortableExprKind.self_field f) = Unit {0}
    TypedKind (PortableExprKind.binary op l r) = TypedValue l × TypedValue r
    TypedKind (PortableExprKind.unary op e) = TypedValue e

  -- a typed value, nested so deep
  pub record TypedNested (f : ℕ) (e : PortableExpr) : Type 0 where
    pub good : TypedValue e
    pub deep : typed_nesting e ≤ f

  abbrev pub TypedStatement : PortableStatement → Type 0
  TypedStatement (PortableStatement.let_local x t e) = Stored names t × TypedNested 32 e
  TypedStatement (PortableStatement.return v) = AllOption (TypedNested 32) v
  TypedStatement (PortableStatement.assign_self_field f e) = TypedNested 32 e

  abbrev pub TypedParam : Param ResolvedType → Type 0
  TypedParam p = Stored names p.ty

  pub record TypedSignature (s : PortableSignature) : Type 0 where
    pub params : Few 32 TypedParam s.params
    pub return_type : AllOption (Stored names) s.return_type

  pub record TypedFunction (f : PortableFunction) : Type 0 where
    pub params : Few 32 TypedParam f.params
    pub return_type : AllOption (Stored names) f.return_type
    pub statements : Few 256 TypedStatement f.statements

  -- an expression behind its code; its parts by `part`
  unfoldable pub kind_node : Reader PortableExpr → ExprKind → ℕ → Reader PortableExprKind
  kind_node part ExprKind.Literal c = do
    n ← wide
    give (PortableExprKind.literal c n.0 n.1)
  kind_node part ExprKind.Flag c = do
    b ← word
    give (PortableExprKind.bool b)
  kind_node part ExprKind.Text c = do
    s ← word
    give (PortableExprKind.string s)
  kind_node part ExprKind.Local c = do
    x ← word
    give (PortableExprKind.local x)
  kind_node part ExprKind.SelfRef c = give PortableExprKind.self_ref
  kind_node part ExprKind.FieldAccess c = do
    f ← word
    give (PortableExprKind.self_field f)
  kind_node part ExprKind.Call c = fail
  kind_node part ExprKind.TraitMethodCall c = fail
  kind_node part ExprKind.Binary c = do
    op ← word
    l ← part
    r ← part
    give (PortableExprKind.binary op l r)
  kind_node part ExprKind.Unary c = do
    op ← word
    e ← part
    give (PortableExprKind.unary op e)
  kind_node part ExprKind.Unknown c = fail

  -- a type, then an expression
  unfoldable pub value_tree : ℕ → Reader PortableExpr
  value_tree zero = fail
  value_tree (suc nesting) = do
    t ← resolved_type names
    c ← word
    k ← kind_node (value_tree nesting) (expr_kind c) c
    give (typed t k)

  unfoldable pub typed_statement_node : StatementKind → Reader PortableStatement
  typed_statement_node StatementKind.Expr = fail
  typed_statement_node StatementKind.Let = do
    x ← word
    t ← resolved_type names
    e ← value_tree 32
    give (PortableStatement.let_local x t e)
  typed_statement_node StatementKind.Return = do
    v ← maybe (value_tree 32)
    give (PortableStatement.return v)
  typed_statement_node StatementKind.Assign = do
    f ← word
    e ← value_tree 32
    give (PortableStatement.assign_self_field f e)
  typed_statement_node StatementKind.Unknown = fail

  unfoldable pub typed_statement : Reader PortableStatement
  typed_statement = do
    c ← word
    typed_statement_node (statement_kind c)

  unfoldable pub typed_param : Reader (Param ResolvedType)
  typed_param = do
    x ← word
    t ← resolved_type names
    give (record { name = x; ty = t })

  unfoldable pub typed_signature : Reader PortableSignature
  typed_signature = do
    x ← word
    ps ← many 32 typed_param
    t ← maybe (resolved_type names)
    give (record { name = x; params = ps; return_type = t })

  unfoldable pub typed_function : Reader PortableFunction
  typed_function = do
    s ← typed_signature
    ss ← many 256 typed_statement
    give (record { name = s.name; params = s.params; return_type = s.return_type; statements = ss })
