-- Contracts that are too long for a line, each called after its function.
use Rattle.std.specs.Prelude.{ℕ, List}
use Rattle.std.proofs.Math.Option.{Option}
use Rattle.image_layout.specs.Open.{pool_words}
use Rattle.image_layout.specs.declared.Layout.{Layout}
use Rattle.rules.specs.Infer.{expression_hint, binary_hint}
use Rattle.rules.specs.Syntax.{Expr, ResolvedType}
use Rattle.type_words.specs.Holds.{MaybeHolds}
use Rattle.type_words.specs.declared.MaybeType.{MaybeType}
use Rattle.infer_context.specs.InContext.{AtContext}
use Rattle.infer_context.specs.Stood.{Stood, AtExpr}
use Rattle.infer_context.specs.declared.Context.{Context}

-- the type of a field access by itself
abbrev pub HintsField : Layout → Context → ℕ → MaybeType → Type 0
HintsField l ctx at r =
    (names words lens : List ℕ) → AtContext l names words lens ctx (λ c. (nest f : ℕ) (e : Expr) (n : ℕ)
    → Stood l.names.rows l.strings.rows (pool_words l) nest (Expr.field_access f e) at n
    → MaybeHolds l.names.rows r (expression_hint c (Expr.field_access f e)))

-- the type that the expression there has by itself, if any
abbrev pub HintsExpression : Layout → Context → List ℕ → List ℕ → List ℕ → ℕ → MaybeType → Type 0
HintsExpression l ctx names words lens at r =
    AtContext l names words lens ctx (λ c. (nest : ℕ) → AtExpr l nest at (λ e n. MaybeHolds l.names.rows r (expression_hint c e)))

-- the type under which an operation's left operand is typed, if any
abbrev pub HintsBinary : Layout → Context → List ℕ → List ℕ → List ℕ → ℕ → ℕ → ℕ → MaybeType → MaybeType → Type 0
HintsBinary l ctx names words lens op left right expected r =
    AtContext l names words lens ctx (λ c. (nest : ℕ)
    → AtExpr l nest left (λ d m. AtExpr l nest right (λ e n. (o : Option ResolvedType) → MaybeHolds l.names.rows expected o
    → MaybeHolds l.names.rows r (binary_hint c op d e o))))
