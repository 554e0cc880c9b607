-- What a layout means: the rules read the image's rows by it.
use Rattle.std.specs.Prelude.{ℕ, ◌≡◌, Bool, true, false, ◌&&◌, List, [], length, Option, None, Some}
use Rattle.std.proofs.Math.Option as math
use Rattle.std.proofs.Math.Option.{none, some}
use Rattle.rules.specs.Words.{within}
use Rattle.rules.specs.Reader.{Rest, rest_at}
use Rattle.rules.specs.Image.{good_trailer, readable}
use Rattle.image_layout.specs.declared.Layout.{Layout}
use Rattle.image_layout.specs.Rows.{Cut}
use Rattle.image_layout.specs.Readers.{rows_of}
use Rattle.image_trailer.specs.Trailers.{trailer_told}
use Rattle.image_sections.specs.Tables.{TellsLayout}

-- what was read, without the place
abbrev pub value : {A : Type 0} → math.Option (A × Rest) → math.Option A
value none = none
value (some p) = some p.0

-- whether an image's length and its trailer are good
abbrev pub well_ended : List ℕ → Bool
well_ended image = within 24 65536 (length image) && good_trailer (length image) (trailer_told image)

-- the layout that an image's own trailer tells
abbrev pub IsLayoutOf : List ℕ → Layout → Type 0
IsLayoutOf image l = TellsLayout image (trailer_told image) l

-- the image is readable where its rows are
pub record Laid (l : Layout) : Type 0 where
  pub cut : Cut l
  pub reads : readable l.image.now ≡ value (rows_of l (rest_at [] 0))

-- a layout exactly where length and trailer are good: the one told, by which the rules read the image; without one it is not readable
abbrev pub Read : List ℕ → Option Layout → Type 0
Read image None = (well_ended image ≡ false) × (readable image ≡ none)
Read image (Some l) = (well_ended image ≡ true) × IsLayoutOf image l × Laid l
