-- Contracts that are too long for a line, each called after its function.
use Rattle.std.specs.Prelude.{ℕ, Bool, List, ◌∷◌, ◌≡◌}
use Rattle.std.proofs.Math.Option.{Option, none, some}
use Rattle.answers.specs.declared.answer.Outcome.{Outcome}
use Rattle.image_layout.specs.Open.{pool_words}
use Rattle.image_layout.specs.declared.Layout.{Layout}
use Rattle.infer_context.specs.InContext.{AtContext}
use Rattle.infer_context.specs.Stood.{AtExpr}
use Rattle.infer_context.specs.declared.Context.{Context}
use Rattle.pool_bodies.specs.StatementAt.{StatementStands}
use Rattle.project_outcome.specs.Outcomes.{ComesTo}
use Rattle.rules.specs.Bodies.{is_empty}
use Rattle.rules.specs.Infer.{FunctionContext}
use Rattle.rules.specs.Syntax.{Expr, Statement, ResolvedType}
use Rattle.rules.specs.declared.ids.NameId.{NameId}
use Rattle.type_words.specs.Holds.{MaybeHolds}
use Rattle.type_words.specs.declared.MaybeType.{MaybeType}
use Rattle.project_statement.specs.Made.{assign_words, block_words, value_of}

-- the words of an assignment, or its refusal
abbrev pub ProjectsAssign : Layout → ℕ → Context → List ℕ → List ℕ → List ℕ → List ℕ → List ℕ → ℕ → ℕ → Outcome → Type 0
ProjectsAssign l at ctx names words lens out out' limit to r =
    AtContext l names words lens ctx (λ c. (t e : Expr) (n : ℕ)
    → StatementStands l.names.rows l.strings.rows (pool_words l) (Statement.assign t e) at n
    → ComesTo (assign_words c t e) limit to out out' r)

-- the words of a Return without a value, or 22 or 23
abbrev pub ReturnsNothing : NameId → MaybeType → Bool → List ℕ → List ℕ → ℕ → ℕ → Outcome → Type 0
ReturnsNothing function returns last out out' limit to r =
    (c : FunctionContext) → function.0 ≡ c.function → (rows : ℕ) (o : Option ResolvedType) → MaybeHolds rows returns o → (ss : List Statement)
    → is_empty ss ≡ last → ComesTo (block_words o c (Statement.return none ∷ ss)) limit to out out' r

-- the words of a Return with the value that stands there, or 22, 23 or the value's refusal
abbrev pub ReturnsValue : Layout → ℕ → Context → List ℕ → List ℕ → List ℕ → MaybeType → Bool → List ℕ → List ℕ → ℕ → ℕ → Outcome → Type 0
ReturnsValue l at ctx names words lens returns last out out' limit to r =
    AtContext l names words lens ctx (λ c. AtExpr l 32 at (λ e n. (o : Option ResolvedType) → MaybeHolds l.names.rows returns o
    → (ss : List Statement) → is_empty ss ≡ last → ComesTo (block_words o c (Statement.return (some e) ∷ ss)) limit to out out' r))

-- the words of the Return that stands there, or 22, 23 or its value's refusal
abbrev pub ProjectsReturn : Layout → ℕ → Context → List ℕ → List ℕ → List ℕ → MaybeType → Bool → List ℕ → List ℕ → ℕ → ℕ → Outcome → Type 0
ProjectsReturn l at ctx names words lens returns last out out' limit to r =
    AtContext l names words lens ctx (λ c. (v : Option Expr) (n : ℕ)
    → StatementStands l.names.rows l.strings.rows (pool_words l) (Statement.return v) at n → (o : Option ResolvedType)
    → MaybeHolds l.names.rows returns o → (ss : List Statement) → is_empty ss ≡ last
    → ComesTo (block_words o c (Statement.return v ∷ ss)) limit to out out' r)

-- the words of the value that stands there, or its refusal
abbrev pub ProjectsValue : Layout → Context → List ℕ → List ℕ → List ℕ → ℕ → MaybeType → ℕ → List ℕ → List ℕ → ℕ → ℕ → Outcome → Type 0
ProjectsValue l ctx names words lens at expected context out out' limit to r =
    AtContext l names words lens ctx (λ c. AtExpr l 32 at (λ e n. (o : Option ResolvedType) → MaybeHolds l.names.rows expected o
    → ComesTo (value_of c e o context) limit to out out' r))
