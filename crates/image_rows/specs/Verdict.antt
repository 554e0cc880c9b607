-- What the checks of rows say, each of its reader, from its row's place on.
use Rattle.std.specs.Prelude.{ℕ, ◌+◌, ◌*◌, Bool, List, true, false, Option, Some, None}
use Rattle.rules.specs.Syntax.{Name, TypeDef}
use Rattle.rules.specs.Reader.{Reader, times}
use Rattle.image_words.specs.Verdict.{section_words, Says}
use Rattle.image_layout.specs.declared.Table.{Table}
use Rattle.image_layout.specs.declared.Layout.{Layout}
use Rattle.image_layout.specs.Readers.{name_row_of, string_row_of, definition_row_of}
use Rattle.image_rows.specs.declared.Rows.{Rows}

-- an answer where the place behind what is read is known
abbrev pub verdict : Bool → ℕ → Option ℕ
verdict true next = Some next
verdict false next = None

-- by which rows are meant: what a row gives, where they stand, and the reader of one
abbrev pub Thing : Rows → Type 0
Thing Rows.Names = Name
Thing Rows.Strings = List ℕ
Thing Rows.Definitions = TypeDef

abbrev pub table_of : Rows → Layout → Table
table_of Rows.Names l = l.names
table_of Rows.Strings l = l.strings
table_of Rows.Definitions l = l.definitions

abbrev pub reader_of : (which : Rows) → Layout → Reader (Thing which)
reader_of Rows.Names l = name_row_of l
reader_of Rows.Strings l = string_row_of l
reader_of Rows.Definitions l = definition_row_of l

-- of row i, up to the next row
abbrev pub RowSays : Rows → Layout → ℕ → Bool → Type 0
RowSays which l i ok =
    let t = table_of which l in
    Says (reader_of which l) (section_words t.words.now) (t.width * i) (verdict ok (t.width * (i + 1)))

-- of all of them
abbrev pub RowsSay : Rows → Layout → Bool → Type 0
RowsSay which l ok =
    let t = table_of which l in
    Says (times t.rows (reader_of which l)) (section_words t.words.now) 0 (verdict ok (t.width * t.rows))

module _ (l : Layout) where
  abbrev pub NameSays : ℕ → Bool → Type 0
  NameSays i ok = RowSays Rows.Names l i ok

  abbrev pub StringSays : ℕ → Bool → Type 0
  StringSays i ok = RowSays Rows.Strings l i ok

  abbrev pub DefinitionSays : ℕ → Bool → Type 0
  DefinitionSays i ok = RowSays Rows.Definitions l i ok
