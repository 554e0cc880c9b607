-- An image that holds a schema, by its layout.
use Rattle.std.specs.Prelude.{ℕ, List}
use Rattle.rules.specs.Syntax.{CompiledSchema}
use Rattle.image_layout.specs.declared.Layout.{Layout}
use Rattle.image_layout.specs.Open.{Open}

pub record Opens (l : Layout) : Type 0 where
  pub schema : CompiledSchema
  pub opened : Open l schema
