-- The words of stored expressions, statements and bodies, in prefix order, and which of them are good.
use Rattle.std.specs.Prelude.{ℕ, suc, ◌≤◌, ◌<◌, max, List, [], ◌∷◌, ◌++◌, length}
use Rattle.rules.specs.Syntax.{run, Expr, Exprs, Statement, FnBody}
use Rattle.rules.specs.ReadBodies.{lets}
use Rattle.rules.specs.Output.{listed}
use Rattle.rules.specs.Good.{All, AllOption, Stored}
use Rattle.rules.specs.Exact.{optional}

abbrev pub count : Exprs → ℕ
count Exprs.nil = 0
count (Exprs.cons e es) = suc (count es)

unfoldable mutual
  pub expr_words : Expr → List ℕ
  expr_words (Expr.literal c low high) = c ∷ low ∷ high ∷ []
  expr_words (Expr.bool b) = 3 ∷ b ∷ []
  expr_words (Expr.string s) = 4 ∷ s ∷ []
  expr_words (Expr.local x) = 5 ∷ x ∷ []
  expr_words Expr.self_ref = 6 ∷ []
  expr_words (Expr.field_access x e) = 7 ∷ x ∷ expr_words e
  expr_words (Expr.call x es) = 8 ∷ x ∷ count es ∷ exprs_words es
  expr_words (Expr.trait_method_call t m e es) = 9 ∷ t ∷ m ∷ count es ∷ (expr_words e ++ exprs_words es)
  expr_words (Expr.binary op l r) = 10 ∷ op ∷ (expr_words l ++ expr_words r)
  expr_words (Expr.unary op e) = 11 ∷ op ∷ expr_words e

  pub exprs_words : Exprs → List ℕ
  exprs_words Exprs.nil = []
  exprs_words (Exprs.cons e es) = expr_words e ++ exprs_words es

unfoldable pub stored_statement_words : Statement → List ℕ
stored_statement_words (Statement.expr e) = 0 ∷ expr_words e
stored_statement_words (Statement.let_local x t e) = 1 ∷ x ∷ (optional run t ++ expr_words e)
stored_statement_words (Statement.return v) = 2 ∷ optional expr_words v
stored_statement_words (Statement.assign t e) = 3 ∷ (expr_words t ++ expr_words e)

unfoldable pub body_words : FnBody → List ℕ
body_words FnBody.external = 0 ∷ []
body_words (FnBody.block ss) = 1 ∷ listed stored_statement_words ss

-- how deep expressions nest; a leaf is 1
abbrev mutual
  pub nesting : Expr → ℕ
  nesting (Expr.literal c low high) = 1
  nesting (Expr.bool b) = 1
  nesting (Expr.string s) = 1
  nesting (Expr.local x) = 1
  nesting Expr.self_ref = 1
  nesting (Expr.field_access x e) = suc (nesting e)
  nesting (Expr.call x es) = suc (nestings es)
  nesting (Expr.trait_method_call t m e es) = suc (max (nesting e) (nestings es))
  nesting (Expr.binary op l r) = suc (max (nesting l) (nesting r))
  nesting (Expr.unary op e) = suc (nesting e)

  pub nestings : Exprs → ℕ
  nestings Exprs.nil = 0
  nestings (Exprs.cons e es) = max (nesting e) (nestings es)

-- over the number of name rows and of string rows
module _ (names strings : ℕ) where
  abbrev mutual
    pub GoodValue : Expr → Type 0
    GoodValue (Expr.literal c low high) = c < 3
    GoodValue (Expr.bool b) = b < 2
    GoodValue (Expr.string s) = s < strings
    GoodValue (Expr.local x) = x < names
    GoodValue Expr.self_ref = Unit {0}
    GoodValue (Expr.field_access x e) = (x < names) × GoodValue e
    GoodValue (Expr.call x es) = (x < names) × (count es ≤ 32) × GoodValues es
    GoodValue (Expr.trait_method_call t m e es) = (t < names) × (m < names) × (count es ≤ 32) × GoodValue e × GoodValues es
    GoodValue (Expr.binary op l r) = (op < 10) × GoodValue l × GoodValue r
    GoodValue (Expr.unary op e) = (op < 2) × GoodValue e

    pub GoodValues : Exprs → Type 0
    GoodValues Exprs.nil = Unit {0}
    GoodValues (Exprs.cons e es) = GoodValue e × GoodValues es

  -- a good expression, nested so deep
  pub record Nested (f : ℕ) (e : Expr) : Type 0 where
    pub good : GoodValue e
    pub deep : nesting e ≤ f

  abbrev pub GoodStatement : Statement → Type 0
  GoodStatement (Statement.expr e) = Nested 32 e
  GoodStatement (Statement.let_local x t e) = (x < names) × AllOption (Stored names) t × Nested 32 e
  GoodStatement (Statement.return v) = AllOption (Nested 32) v
  GoodStatement (Statement.assign t e) = Nested 32 t × Nested 32 e

  abbrev pub GoodBody : FnBody → Type 0
  GoodBody FnBody.external = Unit {0}
  GoodBody (FnBody.block ss) = (length ss ≤ 256) × All GoodStatement ss × (lets ss ≤ 32)
