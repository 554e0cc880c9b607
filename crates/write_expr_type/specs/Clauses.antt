-- Contracts that are too long for a line, each called after its function.
use Rattle.std.specs.Prelude.{ℕ, ◌-◌, cond, List, ◌≡◌}
use Rattle.std.proofs.Math.Option.{none, some}
use Rattle.image_layout.specs.Open.{pool_words}
use Rattle.image_layout.specs.declared.Layout.{Layout}
use Rattle.infer_context.specs.InContext.{AtContext}
use Rattle.infer_context.specs.Stood.{Stood, AtExpr}
use Rattle.infer_context.specs.declared.Context.{Context}
use Rattle.rules.specs.Infer.{is_arithmetic, expression_hint, binary_hint}
use Rattle.rules.specs.Options.{or}
use Rattle.rules.specs.Syntax.{ResolvedType, run, Expr}
use Rattle.rules.specs.Types.{BOOL, VOID}
use Rattle.type_words.specs.Holds.{Holds, MaybeHolds}
use Rattle.type_words.specs.Runs.{Runs}
use Rattle.type_words.specs.declared.HeldType.{HeldType}
use Rattle.type_words.specs.declared.MaybeType.{MaybeType}
use Rattle.write_expr_type.specs.Foretold.{left_type}

-- the type that a place has by itself; Void stands where there is none
abbrev pub ForetellsPlace : Layout → Context → List ℕ → List ℕ → List ℕ → ℕ → HeldType → Type 0
ForetellsPlace l ctx names words lens at r =
    AtContext l names words lens ctx (λ c. (nest : ℕ) → AtExpr l nest at (λ e n. Holds l.names.rows r (or (expression_hint c e) VOID)))

-- the type that a binary has whatever its left's is, if any: a comparison's bool, else the hint
abbrev pub ForetellsBinary : Layout → Context → List ℕ → List ℕ → List ℕ → ℕ → ℕ → MaybeType → Type 0
ForetellsBinary l ctx names words lens at nest r =
    AtContext l names words lens ctx (λ c. (outer op : ℕ) (d e : Expr) (n : ℕ) → outer - 1 ≡ nest
    → Stood l.names.rows l.strings.rows (pool_words l) outer (Expr.binary op d e) at n
    → MaybeHolds l.names.rows r (cond (is_arithmetic op) (binary_hint c op d e none) (some BOOL)))

-- the type of an accepted operation's left operand
abbrev pub TellsOperandType : Layout → Context → List ℕ → List ℕ → List ℕ → ℕ → ℕ → ℕ → ℕ → HeldType → HeldType → Type 0
TellsOperandType l ctx names words lens op left right nest ty r =
    AtContext l names words lens ctx (λ c. AtExpr l nest left (λ d m. AtExpr l nest right (λ e n. (t : ResolvedType) → Runs ty (run t)
    → Runs r (run (left_type c op d e t)))))
