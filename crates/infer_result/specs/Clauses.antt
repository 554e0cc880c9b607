-- Contracts that are too long for a line, each called after its function.
use Rattle.std.specs.Prelude.{ℕ, ◌<◌}
use Rattle.std.proofs.Math.Option.{Option}
use Rattle.rules.specs.Infer.{FunctionContext, PortableExprKind, ended}
use Rattle.rules.specs.Syntax.{ResolvedType}
use Rattle.type_words.specs.Holds.{Holds, MaybeHolds}
use Rattle.type_words.specs.declared.HeldType.{HeldType}
use Rattle.type_words.specs.declared.MaybeType.{MaybeType}
use Rattle.infer_result.specs.Operators.{binary_end, unary_end}
use Rattle.infer_result.specs.Says.{Says}
use Rattle.infer_result.specs.declared.inferred.Inferred.{Inferred}

-- the test at an expression's end
abbrev pub Ends : MaybeType → ℕ → HeldType → Inferred → Type 0
Ends expected context ty r =
    (names : ℕ) (o : Option ResolvedType) (t : ResolvedType) → MaybeHolds names expected o → Holds names ty t
    → (c : FunctionContext) (k : PortableExprKind) → Says names c.function (ended c o context t k) r

-- the end of an operation with operands of type t
abbrev pub EndsBinary : ℕ → HeldType → MaybeType → ℕ → Inferred → Type 0
EndsBinary op ty expected context r =
    (names : ℕ) (o : Option ResolvedType) (t : ResolvedType) → MaybeHolds names expected o → Holds names ty t
    → (c : FunctionContext) (k : PortableExprKind) → Says names c.function (binary_end c op o context t k) r

-- the end of an operation with a value of type t
abbrev pub EndsUnary : ℕ → HeldType → MaybeType → ℕ → Inferred → Type 0
EndsUnary op ty expected context r =
    op < 2 → (names : ℕ) (o : Option ResolvedType) (t : ResolvedType) → MaybeHolds names expected o → Holds names ty t
    → (c : FunctionContext) (k : PortableExprKind) → Says names c.function (unary_end c op o context t k) r
