-- What is foretold of whatever expression stands at a place.
use Rattle.std.specs.Prelude.{ℕ, List}
use Rattle.type_words.specs.declared.HeldType.{HeldType}
use Rattle.type_words.specs.Holds.{Holds}
use Rattle.image_layout.specs.declared.Layout.{Layout}
use Rattle.infer_context.specs.declared.Context.{Context}
use Rattle.infer_context.specs.Stood.{AtExpr}
use Rattle.infer_context.specs.InContext.{AtContext}
use Rattle.write_expr_type.specs.Foretold.{foretold}

-- over the image, its layout, the table and the context
module _ (l : Layout) (names words lens : List ℕ) (x : Context) (at nest : ℕ) (r : HeldType) where
  abbrev pub Foretells : Type 0
  Foretells = AtContext l names words lens x (λ c. AtExpr l nest at (λ e n. Holds l.names.rows r (foretold c e)))
