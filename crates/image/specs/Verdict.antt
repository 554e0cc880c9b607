-- What reading an image comes to.
use Rattle.std.specs.Prelude.{◌≡◌, ℕ, List, Option, None, Some}
use Rattle.std.proofs.Math.Option.{none, some}
use Rattle.rules.specs.Syntax.{CompiledSchema}
use Rattle.rules.specs.Image.{readable}
use Rattle.image_layout.specs.declared.Layout.{Layout}
use Rattle.image_layout.specs.Rows.{Cut}
use Rattle.image_layout.specs.Open.{Open}
use Rattle.image_sections.specs.Laid.{IsLayoutOf}

-- the rules read a schema, and it stands by the layout that the trailer tells, which cuts the image as 01 has it
pub record Reads (image : List ℕ) (l : Layout) : Type 0 where
  pub told : IsLayoutOf image l
  pub cut : Cut l
  pub schema : CompiledSchema
  pub read : readable image ≡ some schema
  pub opens : Open l schema

-- a layout exactly where the image is readable
abbrev pub Verdict : List ℕ → Option Layout → Type 0
Verdict image None = readable image ≡ none
Verdict image (Some l) = Reads image l
