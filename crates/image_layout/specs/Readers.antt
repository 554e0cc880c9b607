-- The rules' readers of rows, over a layout.
use Rattle.std.specs.Prelude.{ℕ, List}
use Rattle.rules.specs.Syntax.{Name, TypeDef, CompiledSchema}
use Rattle.rules.specs.Reader.{Reader}
use Rattle.rules.specs.Image.{name_row, string_row, definition_row, rows}
use Rattle.image_words.specs.Verdict.{section_words}
use Rattle.image_layout.specs.declared.Layout.{Layout}

module _ (l : Layout) where
  abbrev pub name_row_of : Reader Name
  name_row_of = name_row l.image.now l.texts (section_words l.pool.now) l.names.rows l.strings.rows l.definitions.rows

  abbrev pub string_row_of : Reader (List ℕ)
  string_row_of = string_row l.image.now l.texts (section_words l.pool.now) l.names.rows l.strings.rows l.definitions.rows

  abbrev pub definition_row_of : Reader TypeDef
  definition_row_of = definition_row l.image.now l.texts (section_words l.pool.now) l.names.rows l.strings.rows l.definitions.rows

  -- all rows, each from its section
  abbrev pub rows_of : Reader CompiledSchema
  rows_of =
      rows l.image.now l.texts (section_words l.pool.now) l.names.rows l.strings.rows l.definitions.rows
      (section_words l.names.words.now) (section_words l.strings.words.now) (section_words l.definitions.words.now)
