-- Over a layout: the names, strings and definitions that an image's rows give stand in them, and the names' texts are those of the rows.
use Prim.Native.Nat.{ℕ, ◌+◌, ◌*◌, ◌/◌, ◌<◌, ◌≤◌}
use mathlib.Core.Path.{◌≡◌, refl, sym, ap, subst, ◌∙◌}
use mathlib.Core.List.{List}
use mathlib.Core.Option.{some}
use native.Mathlib.Omega.{arith}
use lib.ListN.{length, take, drop, get_or, get_elem?}
use lib.Seq.{get_or-take, get_or-drop}
use Rattle.rules.specs.Syntax.{Name, TypeDef}
use Rattle.rules.specs.Reader.{Rest, rest_at, times}
use Rattle.rules.specs.Kinds.{definition_kind}
use Rattle.rules.specs.Image.{different_texts}
use Rattle.words.specs.Words.{word_at}
use Rattle.image_words.specs.Verdict.{section_words}
use Rattle.image_words.proofs.Sections.{length_section, section_at}
use Rattle.image_words.proofs.Gives as gives
use Rattle.image_words.proofs.Gives.{Gives}
use Rattle.image_words.specs.Gives.{Row}
use Rattle.image_texts.specs.Rows.{row_text, rows_differ}
use Rattle.image_texts.proofs.Names.{differ_rule}
use Rattle.image_layout.specs.declared.Table.{Table}
use Rattle.image_layout.specs.declared.Layout.{Layout}
use Rattle.image_layout.specs.Rows.{Cut, row_word}
use Rattle.image_layout.specs.Readers.{name_row_of, string_row_of, definition_row_of}
use Rattle.image_layout.specs.Open.{AliasStands, DefinitionStands, NameStands, StringStands, pool_words}
use Rattle.image_layout.proofs.Words.{row_inside}
use Rattle.image_rows.proofs.RowSteps.{row_at}
use Rattle.image_rows.proofs.Standing.{NameAt, name_gives, StringAt, string_gives, DefinitionAt, definition_gives, row_th, there}

-- a word of a part, by its place in the whole
part_word : (image : List ℕ) (start size at : ℕ) → at + 4 ≤ size → word_at (take size (drop start image)) at ≡ word_at image (start + at)
part_word image start size at h =
    let byte : (k n : ℕ) → k < size → start + k ≡ n → get_or (take size (drop start image)) k 0 ≡ get_or image n 0 = λ k n l e. rw (get_or-take, get_or-drop, e) in
    cc (
      byte at (start + at) (omega arith) refl,
      byte (at + 1) (start + at + 1) (omega arith) (omega arith),
      byte (at + 2) (start + at + 2) (omega arith) (omega arith),
      byte (at + 3) (start + at + 3) (omega arith) (omega arith),
    )

module _ (l : Layout) (cut : Cut l) where
  -- a word of the section, by its row
  by_row : (t : Table) (i k at : ℕ) → i < t.rows → k < t.width → at ≡ t.width * i + k → get_or (section_words t.words.now) at 0 ≡ row_word t i k
  by_row t i k at below inside e = ap (λ (n : ℕ). get_or (section_words t.words.now) n 0) e ∙ sym (row_at t i k below inside)

  -- over the section of some rows, each of w words: a word of row i
  by_index : (t : Table) (w i k at : ℕ) → t.width ≡ w → i < t.rows → k < w → at ≡ 0 + w * i + k → get_or (section_words t.words.now) at 0 ≡ row_word t i k
  by_index t w i k at e below inside p = by_row t i k at below (omega arith) (rw e (omega arith))

  abbrev NameOf : Name → ℕ → ℕ → Type 0
  NameOf n at m = NameAt l.image.now l.texts (section_words l.pool.now) l.names.rows l.strings.rows l.definitions.rows (section_words l.names.words.now) at n × (m ≡ at + 4)

  -- as many names as there are rows, each as its row says
  pub record Names (ns : List Name) : Type 0 where
    pub count : length ns ≡ l.names.rows
    pub each : (i : ℕ) (n : Name) → get_elem? ns i ≡ some n → NameStands l i n

  name_stands : (i : ℕ) (n : Name) → i < l.names.rows → {m : ℕ} → NameOf n (0 + 4 * i) m → NameStands l i n
  name_stands i n below of =
      let word : (k j : ℕ) → k < 4 → j ≡ 0 + 4 * i + k → get_or (section_words l.names.words.now) j 0 ≡ row_word l.names i k = λ k j h p. by_index l.names 4 i k j cut.names below h p in
      record {
        text = rw (word 1 (0 + 4 * i + 1) (omega arith) refl, word 0 (0 + 4 * i) (omega arith) (omega arith)) at of.0.text;
        definition = of.0.definition ∙ word 2 (0 + 4 * i + 1 + 1) (omega arith) (omega arith);
        alias = subst (λ (k : ℕ). AliasStands l.names.rows (pool_words l) k n.alias) (word 3 (0 + 4 * i + 1 + 1 + 1) (omega arith) (omega arith)) of.0.alias;
      }

  names_stand : (ns : List Name) (m : ℕ) → Row NameOf ns 0 m × (length ns ≡ l.names.rows) → Names ns
  names_stand ns m g = record {
    count = g.1;
    each = λ i n x. name_stands i n (omega (arith, there ns i n x, g.1)) (row_th NameOf 4 (λ x a m h. h.1) ns 0 m g.0 i n x).1;
  }

  pub names_give : Gives (times l.names.rows (name_row_of l)) (section_words l.names.words.now) 0 (λ ns m. Names ns)
  names_give = gives.so_then (gives.times_gives NameOf (λ at. name_gives _ _ _ _ _ _ _ at) l.names.rows 0) names_stand

  -- as many strings as there are rows, each as its row says
  pub record Strings (ts : List (List ℕ)) : Type 0 where
    pub count : length ts ≡ l.strings.rows
    pub each : (i : ℕ) (t : List ℕ) → get_elem? ts i ≡ some t → StringStands l i t

  abbrev StringOf : List ℕ → ℕ → ℕ → Type 0
  StringOf t at m = StringAt l.image.now l.texts (section_words l.pool.now) l.names.rows l.strings.rows l.definitions.rows (section_words l.strings.words.now) at t × (m ≡ at + 2)

  string_stands : (i : ℕ) (t : List ℕ) → i < l.strings.rows → {m : ℕ} → StringOf t (0 + 2 * i) m → StringStands l i t
  string_stands i t below of =
      rw (
        by_index l.strings 2 i 1 (0 + 2 * i + 1) cut.strings below (omega arith) refl,
        by_index l.strings 2 i 0 (0 + 2 * i) cut.strings below (omega arith) (omega arith),
      ) at
      of.0

  strings_stand : (ts : List (List ℕ)) (m : ℕ) → Row StringOf ts 0 m × (length ts ≡ l.strings.rows) → Strings ts
  strings_stand ts m g = record {
    count = g.1;
    each = λ i t x. string_stands i t (omega (arith, there ts i t x, g.1)) (row_th StringOf 2 (λ x a m h. h.1) ts 0 m g.0 i t x).1;
  }

  pub strings_give : Gives (times l.strings.rows (string_row_of l)) (section_words l.strings.words.now) 0 (λ ts m. Strings ts)
  strings_give = gives.so_then (gives.times_gives StringOf (λ at. string_gives _ _ _ _ _ _ _ at) l.strings.rows 0) strings_stand

  -- a definition's row says d
  abbrev DefinitionIn : ℕ → TypeDef → Type 0
  DefinitionIn i d = DefinitionStands l.names.rows l.strings.rows (pool_words l) (definition_kind (row_word l.definitions i 0)) (row_word l.definitions i 1) d

  -- as many definitions as there are rows, each as its row says
  pub record Definitions (ds : List TypeDef) : Type 0 where
    pub count : length ds ≡ l.definitions.rows
    pub each : (i : ℕ) (d : TypeDef) → get_elem? ds i ≡ some d → DefinitionIn i d

  abbrev DefinitionOf : TypeDef → ℕ → ℕ → Type 0
  DefinitionOf d at m = DefinitionAt l.image.now l.texts (section_words l.pool.now) l.names.rows l.strings.rows l.definitions.rows (section_words l.definitions.words.now) at d × (m ≡ at + 2)

  definition_stands : (i : ℕ) (d : TypeDef) → i < l.definitions.rows → {m : ℕ} → DefinitionOf d (0 + 2 * i) m → DefinitionIn i d
  definition_stands i d below of =
      rw (
        by_index l.definitions 2 i 0 (0 + 2 * i) cut.definitions below (omega arith) (omega arith),
        by_index l.definitions 2 i 1 (0 + 2 * i + 1) cut.definitions below (omega arith) refl,
      ) at
      of.0

  definitions_stand : (ds : List TypeDef) (m : ℕ) → Row DefinitionOf ds 0 m × (length ds ≡ l.definitions.rows) → Definitions ds
  definitions_stand ds m g = record {
    count = g.1;
    each = λ i d x. definition_stands i d (omega (arith, there ds i d x, g.1)) (row_th DefinitionOf 2 (λ x a m h. h.1) ds 0 m g.0 i d x).1;
  }

  pub definitions_give : Gives (times l.definitions.rows (definition_row_of l)) (section_words l.definitions.words.now) 0 (λ ds m. Definitions ds)
  definitions_give = gives.so_then (gives.times_gives DefinitionOf (λ at. definition_gives _ _ _ _ _ _ _ at) l.definitions.rows 0) definitions_stand

  -- a word of a name's row, by its place in the image
  name_word : (i k at : ℕ) → i < l.names.rows → k < 4 → at ≡ l.texts + 16 * i + 4 * k → row_word l.names i k ≡ word_at l.image.now at
  name_word i k at below inside e =
      let w = cut.names in
      let h : k < l.names.width = omega arith in
      let j : ℕ = l.names.width * i + k in
      let m : j < length l.names.words.now / 4 = omega (arith, row_inside l.names.width i l.names.rows k below h, cut.inside.names.whole, length_section l.names.words.now) in
      let p : l.texts + 4 * j ≡ at = rw w (omega arith) in
      let fits : 4 * j + 4 ≤ 16 * l.names.rows = rw w (omega arith) in
      row_at l.names i k below h ∙ sym (section_at l.names.words.now j m)
      ∙ ap (λ (x : List ℕ). word_at x (4 * j)) cut.texts ∙ part_word l.image.now l.texts (16 * l.names.rows) (4 * j) fits
      ∙ ap (word_at l.image.now) p

  -- so all texts differ where those of the rows do
  pub texts_rule : {ns : List Name} {q : Rest} → times l.names.rows (name_row_of l) (rest_at (section_words l.names.words.now) 0) ≡ some (ns, q)
      → different_texts ns ≡ rows_differ l.image.now l.texts l.names.rows
  unfolding row_text
  texts_rule {ns} e =
      let s = (gives.of names_give e).1 in
      differ_rule l.image.now l.texts ns (λ i n x.
      let below : i < l.names.rows = omega (arith, there ns i n x, s.count) in
      rw (name_word i 1 (l.texts + 16 * i + 4) below (omega arith) (omega arith), name_word i 0 (l.texts + 16 * i) below (omega arith) (omega arith)) at (s.each i n x).text)
      ∙ ap (rows_differ l.image.now l.texts) s.count
