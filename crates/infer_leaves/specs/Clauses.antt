-- Contracts that are too long for a line, each called after its function.
use Rattle.std.specs.Prelude.{ℕ, ◌+◌, ◌<◌, List, ◌≡◌, get_or}
use Rattle.std.proofs.Math.Option.{Option}
use Rattle.image_layout.specs.Open.{pool_words}
use Rattle.image_layout.specs.declared.Layout.{Layout}
use Rattle.infer_context.specs.InContext.{AtContext}
use Rattle.infer_context.specs.Stood.{Stood, AtExpr}
use Rattle.infer_context.specs.declared.Context.{Context}
use Rattle.infer_result.specs.Says.{Says}
use Rattle.infer_result.specs.declared.inferred.Inferred.{Inferred}
use Rattle.rules.specs.Infer.{FunctionContext, infer_expr, PortableExprKind, expression_hint}
use Rattle.rules.specs.Kinds.{expr_kind}
use Rattle.rules.specs.Syntax.{ResolvedType, Expr, Exprs}
use Rattle.rules.specs.declared.ids.NameId.{NameId}
use Rattle.rules.specs.declared.kinds.ExprKind.{ExprKind}
use Rattle.type_words.specs.Holds.{MaybeHolds}
use Rattle.type_words.specs.declared.MaybeType.{MaybeType}
use Rattle.infer_leaves.specs.Placed.{placed}

-- what typing says of the literal there, under any expected type that is held
abbrev pub InfersLiteral : Layout → ℕ → MaybeType → ℕ → Inferred → Type 0
InfersLiteral l at expected context r =
    (nest k low high n : ℕ) → Stood l.names.rows l.strings.rows (pool_words l) nest (Expr.literal k low high) at n
    → (o : Option ResolvedType) → MaybeHolds l.names.rows expected o → (c : FunctionContext)
    → Says l.names.rows c.function (infer_expr c (Expr.literal k low high) o context) r

-- what typing says of a place whose own type is its hint, and the number, 1 to 19, where it has none
abbrev pub InfersPlace : Layout → Context → List ℕ → List ℕ → List ℕ → ℕ → MaybeType → ℕ → ℕ → Inferred → Type 0
InfersPlace l ctx names words lens at expected context number r =
    AtContext l names words lens ctx (λ c. (nest : ℕ)
    → AtExpr l nest at (λ e n. 0 < number → number < 20 → (o : Option ResolvedType) → MaybeHolds l.names.rows expected o
    → (k : PortableExprKind)
    → Says l.names.rows c.function (placed c number (get_or (pool_words l) (at + 1) 0) (expression_hint c e) o context k) r))

-- the method's name in the call that stands there
abbrev pub NamesMethod : Layout → ℕ → NameId → Type 0
NamesMethod l at r =
    (nest t x n : ℕ) (e : Expr) (es : Exprs) → Stood l.names.rows l.strings.rows (pool_words l) nest (Expr.trait_method_call t x e es) at n
    → r.0 ≡ x

-- what typing says of the expression there, if its code is no operation's
abbrev pub InfersLeaf : Layout → Context → List ℕ → List ℕ → List ℕ → ℕ → MaybeType → ℕ → Inferred → Type 0
InfersLeaf l ctx names words lens at expected context r =
    (expr_kind (get_or (pool_words l) at 0) ≡ ExprKind.Binary → ⊥) → (expr_kind (get_or (pool_words l) at 0) ≡ ExprKind.Unary → ⊥)
    → AtContext l names words lens ctx (λ c. (nest : ℕ)
    → AtExpr l nest at (λ e n. (o : Option ResolvedType) → MaybeHolds l.names.rows expected o
    → Says l.names.rows c.function (infer_expr c e o context) r))
