-- What typing answers of whatever expression stands at a place.
use Rattle.std.specs.Prelude.{ℕ, List}
use Rattle.std.proofs.Math.Option.{Option}
use Rattle.rules.specs.Syntax.{ResolvedType, Expr}
use Rattle.rules.specs.Infer.{FunctionContext, infer_expr}
use Rattle.type_words.specs.declared.MaybeType.{MaybeType}
use Rattle.type_words.specs.Holds.{MaybeHolds}
use Rattle.image_layout.specs.declared.Layout.{Layout}
use Rattle.infer_context.specs.declared.Context.{Context}
use Rattle.infer_context.specs.Stood.{AtExpr}
use Rattle.infer_context.specs.InContext.{AtContext}
use Rattle.infer_result.specs.declared.inferred.Inferred.{Inferred}
use Rattle.infer_result.specs.Says.{Says}

-- over the image, its layout, the table and the context
module _ (l : Layout) (names words lens : List ℕ) (x : Context) (at nest : ℕ) (expected : MaybeType) (context : ℕ) (r : Inferred) where
  -- r is what the rules make of an expression under any expected type that is held
  abbrev pub SaysOf : FunctionContext → Expr → Type 0
  SaysOf c e = (o : Option ResolvedType) → MaybeHolds l.names.rows expected o → Says l.names.rows c.function (infer_expr c e o context) r

  abbrev pub Infers : Type 0
  Infers = AtContext l names words lens x (λ c. AtExpr l nest at (λ e n. SaysOf c e))
