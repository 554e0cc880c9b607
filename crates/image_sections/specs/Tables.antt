-- The tables and the layout that a trailer tells.
use Rattle.std.specs.Prelude.{ℕ, ◌-◌, ◌*◌, ◌/◌, ◌%◌, ◌≤◌, ◌≡◌, List, length}
use Rattle.rules.specs.Image as rules
use Rattle.rules.specs.Image.{part}
use Rattle.image_layout.specs.declared.Table.{Table}
use Rattle.image_layout.specs.declared.Layout.{Layout}

-- whole rows of w bytes from a to b, at most `most`
pub record Whole (a b w most : ℕ) : Type 0 where
  pub order : a ≤ b
  pub exact : (b - a) % w ≡ 0
  pub few : (b - a) / w ≤ most

-- a table is the image's bytes from a to b, in rows of w words
pub record TellsTable (image : List ℕ) (a b w : ℕ) (t : Table) : Type 0 where
  pub words : t.words.now ≡ part image a b
  pub rows : t.rows ≡ (b - a) / (4 * w)
  pub width : t.width ≡ w

-- a layout is the one that an image's trailer tells
pub record TellsLayout (image : List ℕ) (t : rules.Trailer) (l : Layout) : Type 0 where
  pub bytes : l.image.now ≡ image
  pub texts : l.texts ≡ t.names_start
  pub names : TellsTable image t.names_start t.strings_start 4 l.names
  pub strings : TellsTable image t.strings_start t.pool_start 2 l.strings
  pub pool : l.pool.now ≡ part image t.pool_start t.definitions_start
  pub definitions : TellsTable image t.definitions_start (length image - 24) 2 l.definitions
