-- Contracts that are too long for a line, each called after its function.
use Rattle.std.specs.Prelude.{ℕ, ◌+◌, ◌<◌, List, ◌≡◌, get_or}
use Rattle.std.proofs.Math.Option.{Option}
use Rattle.image_words.specs.Gives.{MaybeAt, Counted}
use Rattle.image_words.specs.Verdict.{section_words}
use Rattle.pool_expressions.specs.ExprAt.{ExprStands}
use Rattle.pool_type_exprs.specs.TypeExprAt.{TypeExprStands}
use Rattle.pool_types.specs.ParamAt.{ParamAt}
use Rattle.pool_types.specs.TypeAt.{TypeStands}
use Rattle.rules.specs.Syntax.{Expr, ResolvedType, Param, TypeExpr}
use Rattle.rules.specs.declared.kinds.ExprKind.{ExprKind}
use Rattle.skip_types.specs.declared.Node.{Node}
use Rattle.skip_functions.specs.ExprNodes.{expr_node}

-- a node's own words and its parts, both bounded
abbrev pub CountsNode : List ℕ → ℕ → ExprKind → Node → Type 0
CountsNode pool at k r =
    (r ≡ expr_node k (get_or (section_words pool) (at + 2) 0) (get_or (section_words pool) (at + 3) 0)) × (0 < r.words) × (r.words < 5) × (r.parts < 4294967297)

-- the place behind an expression that may stand there
abbrev pub SkipsMaybeExpr : List ℕ → ℕ → ℕ → Type 0
SkipsMaybeExpr pool at r =
    (names strings : ℕ) (o : Option Expr) (n : ℕ) → MaybeAt (section_words pool) (ExprStands names strings (section_words pool)) o at n
    → r ≡ n

-- the place behind parameters with resolved types
abbrev pub SkipsParams : List ℕ → ℕ → ℕ → Type 0
SkipsParams pool at r =
    (names most : ℕ) (ps : List (Param ResolvedType)) (n : ℕ)
    → Counted (section_words pool) most (ParamAt names (section_words pool) (TypeStands names (section_words pool))) ps at n → r ≡ n

-- the place behind parameters with type expressions
abbrev pub SkipsExprParams : List ℕ → ℕ → ℕ → Type 0
SkipsExprParams pool at r =
    (names most : ℕ) (ps : List (Param TypeExpr)) (n : ℕ)
    → Counted (section_words pool) most (ParamAt names (section_words pool) (TypeExprStands names (section_words pool))) ps at n
    → r ≡ n
