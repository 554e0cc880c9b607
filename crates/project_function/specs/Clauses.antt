-- Contracts that are too long for a line, each called after its function.
use Rattle.std.specs.Prelude.{ℕ, ◌+◌, ◌≤◌, List}
use Rattle.std.proofs.Math.Option.{Option}
use Rattle.answers.specs.declared.answer.Outcome.{Outcome}
use Rattle.image_layout.specs.Open.{pool_words}
use Rattle.image_layout.specs.declared.Layout.{Layout}
use Rattle.infer_context.specs.InContext.{AtContext}
use Rattle.infer_context.specs.declared.Context.{Context}
use Rattle.pool_bodies.specs.StatementAt.{BodyStands, StatementStands}
use Rattle.project_let.specs.Agree.{Steps}
use Rattle.project_let.specs.declared.Step.{Step}
use Rattle.project_outcome.specs.Outcomes.{ComesTo}
use Rattle.project_statement.specs.Made.{block_words}
use Rattle.rules.specs.ReadBodies.{let_count}
use Rattle.rules.specs.Syntax.{ResolvedType, FnBody, Statement}
use Rattle.type_words.specs.Holds.{MaybeHolds}
use Rattle.type_words.specs.declared.MaybeType.{MaybeType}
use Rattle.project_function.specs.Blocks.{AtBlock}
use Rattle.project_function.specs.Made.{body_words_of, Passing}

-- the words of the statements that stand there, or the first refusal
abbrev pub ProjectsStatements : Layout → ℕ → ℕ → Context → List ℕ → List ℕ → List ℕ → MaybeType → List ℕ → List ℕ → ℕ → ℕ → Outcome → Type 0
ProjectsStatements l at count ctx names words lens returns out out' limit to r =
    AtBlock l names words lens ctx at count (λ c ss n. (o : Option ResolvedType) → MaybeHolds l.names.rows returns o
    → ComesTo (block_words o c ss) limit to out out' r)

-- the words of the body that stands there, or the first refusal
abbrev pub ProjectsFunction : Layout → ℕ → Context → List ℕ → List ℕ → List ℕ → MaybeType → List ℕ → List ℕ → ℕ → ℕ → Outcome → Type 0
ProjectsFunction l at ctx names words lens returns out out' limit to r =
    AtContext l names words lens ctx (λ c. (b : FnBody) (n : ℕ) → BodyStands l.names.rows l.strings.rows (pool_words l) b at n
    → (o : Option ResolvedType) → MaybeHolds l.names.rows returns o → ComesTo (body_words_of c o b) limit to out out' r)

-- one statement that is no Return: its words, and a local more where it is a Let
abbrev pub ProjectsStep : Layout → ℕ → Context → List ℕ → List ℕ → List ℕ → List ℕ → List ℕ → List ℕ → List ℕ → List ℕ → ℕ → ℕ → Step → Type 0
ProjectsStep l at ctx names names' words words' lens lens' out out' limit to r =
    AtContext l names words lens ctx (λ c. (s : Statement) (n : ℕ)
    → StatementStands l.names.rows l.strings.rows (pool_words l) s at n → ctx.count + let_count s ≤ 64
    → Passing c s (Steps l names' words' lens' ctx limit to out out' r (let_count s)))
