-- Which expression stands where among some words: by recursion on the expression, so that its parts come out by projection.
use Rattle.std.specs.Prelude.{ℕ, ◌+◌, ◌<◌, ◌≤◌, ◌≡◌, List, length, get_or}
use Rattle.rules.specs.Syntax.{Expr, Exprs}
use Rattle.rules.specs.Kinds.{expr_kind}
use Rattle.rules.specs.declared.kinds.ExprKind.{ExprKind}
use Rattle.laws.specs.Runs.{count, expr_words, Nested}
use Rattle.image_words.specs.Gives.{Word}
use Rattle.image_words.specs.Stands.{Held}
use Rattle.pool_types.specs.TypeAt.{WideAt}

-- the word at `at` is an expression's code of kind k
pub record ExprNode (ws : List ℕ) (at : ℕ) (k : ExprKind) : Type 0 where
  pub inside : at < length ws
  pub kind : expr_kind (get_or ws at 0) ≡ k

-- a number of arguments, at most 32
abbrev pub CountAt : List ℕ → Exprs → ℕ → Type 0
CountAt ws es at = Word ws at (count es) × (count es ≤ 32)

-- over the numbers of name rows and string rows and the words
module _ (names strings : ℕ) (ws : List ℕ) where
  abbrev pub NameAt : ℕ → ℕ → Type 0
  NameAt x at = Word ws at x × (x < names)

  abbrev mutual
    pub ExprAt : Expr → ℕ → ℕ → Type 0
    ExprAt (Expr.literal c low high) at n = ExprNode ws at ExprKind.Literal × (get_or ws at 0 ≡ c) × WideAt ws low high (at + 1) × (n ≡ at + 1 + 1 + 1)
    ExprAt (Expr.bool b) at n = ExprNode ws at ExprKind.Flag × Word ws (at + 1) b × (b < 2) × (n ≡ at + 1 + 1)
    ExprAt (Expr.string s) at n = ExprNode ws at ExprKind.Text × Word ws (at + 1) s × (s < strings) × (n ≡ at + 1 + 1)
    ExprAt (Expr.local x) at n = ExprNode ws at ExprKind.Local × NameAt x (at + 1) × (n ≡ at + 1 + 1)
    ExprAt Expr.self_ref at n = ExprNode ws at ExprKind.SelfRef × (n ≡ at + 1)
    ExprAt (Expr.field_access x e) at n = ExprNode ws at ExprKind.FieldAccess × NameAt x (at + 1) × ExprAt e (at + 1 + 1) n
    ExprAt (Expr.call x es) at n = ExprNode ws at ExprKind.Call × NameAt x (at + 1) × CountAt ws es (at + 1 + 1) × ExprsAt es (at + 1 + 1 + 1) n
    ExprAt (Expr.trait_method_call t x e es) at n = ExprNode ws at ExprKind.TraitMethodCall × NameAt t (at + 1) × NameAt x (at + 1 + 1) × CountAt ws es (at + 1 + 1 + 1) × (m : ℕ) × ExprAt e (at + 1 + 1 + 1 + 1) m × ExprsAt es m n
    ExprAt (Expr.binary op l r) at n = ExprNode ws at ExprKind.Binary × Word ws (at + 1) op × (op < 10) × (m : ℕ) × ExprAt l (at + 1 + 1) m × ExprAt r m n
    ExprAt (Expr.unary op e) at n = ExprNode ws at ExprKind.Unary × Word ws (at + 1) op × (op < 2) × ExprAt e (at + 1 + 1) n

    pub ExprsAt : Exprs → ℕ → ℕ → Type 0
    ExprsAt Exprs.nil at n = at ≡ n
    ExprsAt (Exprs.cons e es) at n = (m : ℕ) × ExprAt e at m × ExprsAt es m n

  -- an expression as the pool holds it
  abbrev pub ExprStands : Expr → ℕ → ℕ → Type 0
  ExprStands = Held ExprAt expr_words (Nested names strings 32) ws
