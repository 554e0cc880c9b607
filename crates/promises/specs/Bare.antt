-- Statements without the types written on lets, and two implementations whose bodies are the same but for those.
use Rattle.std.specs.Prelude.{ℕ, ◌≡◌, List, [], map}
use Rattle.std.proofs.Math.Option.{Option, none, some}
use Rattle.rules.specs.Syntax.{Statement, FnBody, ImplFnDef, ImplDef}
use Rattle.rules.specs.Refusal.{ok}
use Rattle.rules.specs.Project.{no_repeat, find_function}

-- a statement with no type on its let; all else stays
abbrev pub bare_statement : Statement → Statement
bare_statement (Statement.expr e) = Statement.expr e
bare_statement (Statement.let_local x t e) = Statement.let_local x none e
bare_statement (Statement.return v) = Statement.return v
bare_statement (Statement.assign target e) = Statement.assign target e

abbrev pub bare : List Statement → List Statement
bare ss = map bare_statement ss

-- two bodies that are blocks of the same statements, but for the types written on lets
pub record SameStatements (b c : FnBody) : Type 0 where
  pub left : List Statement
  pub right : List Statement
  pub is_left : b ≡ FnBody.block left
  pub is_right : c ≡ FnBody.block right
  pub same : bare left ≡ bare right

-- what two implementations list under one name: nothing in both, or two functions with the same statements
abbrev pub SameFunction : Option ImplFnDef → Option ImplFnDef → Type 0
SameFunction none none = Unit {0}
SameFunction none (some g) = ⊥
SameFunction (some f) none = ⊥
SameFunction (some f) (some g) = SameStatements f.body g.body

-- no name is listed twice in either (9 finds no repeat), and under every name the two list the same
pub record SameBodies (i j : ImplDef) : Type 0 where
  pub once_left : no_repeat [] i.functions ≡ ok tt
  pub once_right : no_repeat [] j.functions ≡ ok tt
  pub same : (x : ℕ) → SameFunction (find_function x i.functions) (find_function x j.functions)
