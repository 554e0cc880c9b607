-- Which statement or body stands where among some words.
use Rattle.std.specs.Prelude.{ℕ, ◌+◌, ◌<◌, ◌≤◌, ◌≡◌, List, length, get_or}
use Rattle.rules.specs.Syntax.{Statement, FnBody}
use Rattle.rules.specs.Kinds.{statement_kind}
use Rattle.rules.specs.ReadBodies.{lets}
use Rattle.rules.specs.declared.kinds.StatementKind.{StatementKind}
use Rattle.laws.specs.Runs.{stored_statement_words, body_words, GoodStatement, GoodBody}
use Rattle.image_words.specs.Gives.{Word, Counted, MaybeAt}
use Rattle.image_words.specs.Stands.{Held}
use Rattle.pool_types.specs.TypeAt.{TypeStands}
use Rattle.pool_expressions.specs.ExprAt.{NameAt, ExprStands}

-- the word at `at` is a statement's code of kind k
pub record StatementNode (ws : List ℕ) (at : ℕ) (k : StatementKind) : Type 0 where
  pub inside : at < length ws
  pub kind : statement_kind (get_or ws at 0) ≡ k

-- 1 for a Let's code
abbrev pub let_of : StatementKind → ℕ
let_of StatementKind.Expr = 0
let_of StatementKind.Let = 1
let_of StatementKind.Return = 0
let_of StatementKind.Assign = 0
let_of StatementKind.Unknown = 0

-- over the numbers of name rows and string rows and the words
module _ (names strings : ℕ) (ws : List ℕ) where
  abbrev pub StatementAt : Statement → ℕ → ℕ → Type 0
  StatementAt (Statement.expr e) at n = StatementNode ws at StatementKind.Expr × ExprStands names strings ws e (at + 1) n
  StatementAt (Statement.let_local x t e) at n =
      StatementNode ws at StatementKind.Let × NameAt names strings ws x (at + 1) × (m : ℕ) × MaybeAt ws (TypeStands names ws) t (at + 1 + 1) m × ExprStands names strings ws e m n
  StatementAt (Statement.return v) at n = StatementNode ws at StatementKind.Return × MaybeAt ws (ExprStands names strings ws) v (at + 1) n
  StatementAt (Statement.assign t e) at n = StatementNode ws at StatementKind.Assign × (m : ℕ) × ExprStands names strings ws t (at + 1) m × ExprStands names strings ws e m n

  abbrev pub StatementStands : Statement → ℕ → ℕ → Type 0
  StatementStands = Held StatementAt stored_statement_words (GoodStatement names strings) ws

  -- 0 for an external function, or 1 and the statements
  abbrev pub BodyAt : FnBody → ℕ → ℕ → Type 0
  BodyAt FnBody.external at n = Word ws at 0 × (n ≡ at + 1)
  BodyAt (FnBody.block ss) at n = Word ws at 1 × Counted ws 256 StatementStands ss (at + 1) n × (lets ss ≤ 32)

  abbrev pub BodyStands : FnBody → ℕ → ℕ → Type 0
  BodyStands = Held BodyAt body_words (GoodBody names strings) ws
