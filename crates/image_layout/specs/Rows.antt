-- What the code reads of a row, word by word.
use Rattle.std.specs.Prelude.{ℕ, List, ◌+◌, ◌*◌, ◌<◌, ◌≤◌, ◌≡◌, cond, ◌&&◌, length, take, drop, get_or, ltb}
use Rattle.rules.specs.Kinds.{definition_kind}
use Rattle.rules.specs.declared.kinds.DefinitionKind.{DefinitionKind}
use Rattle.image_words.specs.Verdict.{section_words}
use Rattle.image_layout.specs.declared.Table.{Table}
use Rattle.image_layout.specs.declared.Layout.{Layout}
use Rattle.image_layout.specs.declared.NameRow.{NameRow}
use Rattle.image_layout.specs.declared.StringRow.{StringRow}
use Rattle.image_layout.specs.declared.DefinitionRow.{DefinitionRow}

-- whole rows
pub record Fits (t : Table) : Type 0 where
  pub whole : length (section_words t.words.now) ≡ t.width * t.rows

-- whole rows in each section, within 01's bounds
pub record Inside (l : Layout) : Type 0 where
  pub small : length l.image.now ≤ 65536
  pub names : Fits l.names
  pub strings : Fits l.strings
  pub pool : length (section_words l.pool.now) ≤ 65536
  pub definitions : Fits l.definitions
  pub few_names : l.names.rows ≤ 1024
  pub few_definitions : l.definitions.rows ≤ 256

-- and they are as 01 has them: texts up to the name rows, and rows of so many words
pub record Cut (l : Layout) : Type 0 where
  pub inside : Inside l
  pub texts_end : l.texts ≤ length l.image.now
  pub texts : l.names.words.now ≡ take (16 * l.names.rows) (drop l.texts l.image.now)
  pub names : l.names.width ≡ 4
  pub strings : l.strings.width ≡ 2
  pub definitions : l.definitions.width ≡ 2

-- word k of row i, 0 past the rows
unfoldable pub row_word : Table → ℕ → ℕ → ℕ
row_word t i k = cond (ltb i t.rows && ltb k t.width) (get_or (section_words t.words.now) (t.width * i + k) 0) 0

-- the bytes of row i: each of its words stands there, and what is behind them reads as 0
pub record IsRow (t : Table) (i : ℕ) (row : List ℕ) : Type 0 where
  pub words : (k : ℕ) → row_word t i k ≡ get_or (section_words row) k 0

pub record IsNameRow (l : Layout) (i : ℕ) (r : NameRow) : Type 0 where
  pub start : r.start ≡ row_word l.names i 0
  pub size : r.size ≡ row_word l.names i 1
  pub definition : r.definition.0 ≡ row_word l.names i 2
  pub alias : r.alias ≡ row_word l.names i 3

pub record IsStringRow (l : Layout) (i : ℕ) (r : StringRow) : Type 0 where
  pub start : r.start ≡ row_word l.strings i 0
  pub size : r.size ≡ row_word l.strings i 1

pub record IsDefinitionRow (l : Layout) (d : ℕ) (r : DefinitionRow) : Type 0 where
  pub past : l.definitions.rows ≤ d → r.kind ≡ DefinitionKind.Unknown
  pub nowhere : l.definitions.rows ≤ d → r.start ≡ 0
  pub kind : d < l.definitions.rows → r.kind ≡ definition_kind (row_word l.definitions d 0)
  pub start : d < l.definitions.rows → r.start ≡ row_word l.definitions d 1
