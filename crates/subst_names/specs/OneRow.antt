-- Of the rows that a qualified name is looked for in, at most one has its text: the one that is found. proofs/OneRow.antt proves it.
use Rattle.std.specs.Prelude.{ℕ, ◌<◌, ◌≡◌, List}
use Rattle.rules.specs.Syntax.{CompiledSchema}
use Rattle.image_texts.specs.Rows.{row_text, find_row}
use Rattle.image_layout.specs.declared.Layout.{Layout}
use Rattle.image_layout.specs.Rows.{Cut}
use Rattle.image_layout.specs.Open.{Open}

-- whichever row of a readable image has a text, that row is found: so no other has it
abbrev pub OneRow : Type 0
OneRow =
    (l : Layout) (s : CompiledSchema) → Cut l → Open l s
    → (t : List ℕ) (i : ℕ) → i < l.names.rows → row_text l.image.now l.texts i ≡ t → find_row l.image.now l.texts l.names.rows t ≡ i
