-- Contracts that are too long for a line, each called after its function.
use Rattle.std.specs.Prelude.{ℕ, ◌<◌, List, ◌≡◌}
use Rattle.std.proofs.Math.Option.{Option}
use Rattle.image_layout.specs.Open.{pool_words}
use Rattle.image_layout.specs.declared.Layout.{Layout}
use Rattle.image_words.specs.Gives.{MaybeAt}
use Rattle.infer_context.specs.InContext.{AtContext}
use Rattle.infer_context.specs.Stood.{AtExpr}
use Rattle.infer_context.specs.declared.Context.{Context}
use Rattle.pool_bodies.specs.StatementAt.{StatementStands}
use Rattle.pool_types.specs.TypeAt.{TypeStands}
use Rattle.rules.specs.Syntax.{ResolvedType, Expr, Statement}
use Rattle.rules.specs.declared.ids.NameId.{NameId}
use Rattle.type_words.specs.Holds.{MaybeHolds}
use Rattle.type_words.specs.declared.HeldType.{HeldType}
use Rattle.write_expr.specs.Writes.{WritesOf}
use Rattle.project_let.specs.Agree.{Steps}
use Rattle.project_let.specs.declared.written.Wanted.{Wanted}
use Rattle.project_let.specs.Made.{let_words, made_let}
use Rattle.project_let.specs.declared.Step.{Step}

-- the words of a Let whose value was accepted
abbrev pub WritesLet : Layout → Context → List ℕ → List ℕ → List ℕ → ℕ → NameId → HeldType → List ℕ → List ℕ → ℕ → ℕ → ℕ → Type 0
WritesLet l ctx names words lens at name ty out out' limit to r =
    AtContext l names words lens ctx (λ c. AtExpr l 32 at (λ e n. WritesOf l names words lens ctx at 32 ty limit to out r out' (let_words name.0) c e))

-- a Let: 18, or its value's refusal, or its words and a local more
abbrev pub ProjectsLet : Layout → ℕ → Context → List ℕ → List ℕ → List ℕ → List ℕ → List ℕ → List ℕ → List ℕ → List ℕ → ℕ → ℕ → Step → Type 0
ProjectsLet l at ctx names names' words words' lens lens' out out' limit to r =
    AtContext l names words lens ctx (λ c. (x : ℕ) (t : Option ResolvedType) (e : Expr) (n : ℕ)
    → StatementStands l.names.rows l.strings.rows (pool_words l) (Statement.let_local x t e) at n → ctx.count < 64
    → Steps l names' words' lens' ctx limit to out out' r 1 (made_let c x t e))

-- the type written on a Let, or none, and the place behind it
abbrev pub TellsWrittenType : Layout → ℕ → Wanted → Type 0
TellsWrittenType l at r =
    (t : Option ResolvedType) (n : ℕ) → MaybeAt (pool_words l) (TypeStands l.names.rows (pool_words l)) t at n
    → MaybeHolds l.names.rows r.ty t × (r.next ≡ n)
