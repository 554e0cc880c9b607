-- What is written of whatever accepted expression stands at a place.
use Rattle.std.specs.Prelude.{ℕ, ◌-◌, ◌≡◌, List}
use Rattle.std.proofs.Math.Option.{Option}
use Rattle.rules.specs.Syntax.{ResolvedType, run, Expr}
use Rattle.rules.specs.Refusal.{ok}
use Rattle.rules.specs.Infer.{PortableExpr, PortableExprKind, typed, type_of, FunctionContext, infer_expr}
use Rattle.rules.specs.Output.{value_words, kind_words}
use Rattle.rules.specs.declared.kinds.ExprKind.{ExprKind}
use Rattle.type_words.specs.declared.HeldType.{HeldType}
use Rattle.type_words.specs.Runs.{Runs}
use Rattle.image_layout.specs.declared.Layout.{Layout}
use Rattle.image_layout.specs.Open.{pool_words}
use Rattle.infer_context.specs.declared.Context.{Context}
use Rattle.infer_context.specs.Stood.{Stood, AtExpr}
use Rattle.infer_context.specs.InContext.{AtContext}
use Rattle.write_words.specs.Written.{Written}

-- how many of a leaf's words stand in its value
abbrev pub leaf_size : ExprKind → ℕ
leaf_size ExprKind.Literal = 3
leaf_size ExprKind.Flag = 2
leaf_size ExprKind.Text = 2
leaf_size ExprKind.Local = 2
leaf_size ExprKind.SelfRef = 1
leaf_size ExprKind.FieldAccess = 2
leaf_size ExprKind.Call = 0
leaf_size ExprKind.TraitMethodCall = 0
leaf_size ExprKind.Binary = 0
leaf_size ExprKind.Unary = 0
leaf_size ExprKind.Unknown = 0

unfoldable pub kind_of : PortableExpr → PortableExprKind
kind_of (typed t k) = k

-- over the image, its layout, the table, the context, the place, the type, and the output before and after
module _ (l : Layout) (names words lens : List ℕ) (x : Context) (at nest : ℕ) (ty : HeldType) (limit to : ℕ) (xs : List ℕ) (r : ℕ) (ys : List ℕ) where
  -- the words of the value that the rules make of e, if ty is its type
  abbrev pub WritesOf : (PortableExpr → List ℕ) → FunctionContext → Expr → Type 0
  WritesOf of c e = (o : Option ResolvedType) (context : ℕ) (v : PortableExpr) → infer_expr c e o context ≡ ok v → Runs ty (run (type_of v)) → Written limit to (of v) xs r ys

  abbrev pub Writes : Type 0
  Writes = AtContext l names words lens x (λ c. AtExpr l nest at (λ e n. WritesOf value_words c e))

  -- behind the type, of an operation whose operands nest at most so deep
  abbrev pub WritesBinary : Type 0
  WritesBinary = AtContext l names words lens x (λ c. (outer op : ℕ) (d e : Expr) (n : ℕ) → outer - 1 ≡ nest
      → Stood l.names.rows l.strings.rows (pool_words l) outer (Expr.binary op d e) at n → WritesOf (λ v. kind_words (kind_of v)) c (Expr.binary op d e))

  abbrev pub WritesUnary : Type 0
  WritesUnary = AtContext l names words lens x (λ c. (outer op : ℕ) (e : Expr) (n : ℕ) → outer - 1 ≡ nest
      → Stood l.names.rows l.strings.rows (pool_words l) outer (Expr.unary op e) at n → WritesOf (λ v. kind_words (kind_of v)) c (Expr.unary op e))
