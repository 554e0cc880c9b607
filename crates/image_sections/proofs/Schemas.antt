-- The rules' reading of an image, opened by its trailer.
use Prim.Native.Nat.{ℕ, ◌-◌, ◌*◌, ◌/◌, ◌≤◌}
use mathlib.Core.Path.{◌≡◌, refl, ap, subst, ◌∙◌}
use mathlib.Core.Bool.{Bool, true, false}
use mathlib.Core.List.{List, [], ◌∷◌}
use mathlib.Core.Option.{none, some}
use native.Mathlib.Omega.{arith}
use lib.ListN.{length, drop, get_or, length-drop}
use Rattle.std.specs.Prelude.{None, Some}
use Rattle.rules.specs.Words.{within, words}
use Rattle.rules.specs.Reader.{Rest, rest_at, Reader, bound, ◌>>=◌, give, rule, first, word, from}
use Rattle.rules.specs.Image as rules
use Rattle.rules.specs.Image.{trailer, good_trailer, sections, schema, readable}
use Rattle.words.proofs.Words.{length_words}
use Rattle.image_words.specs.Verdict.{section_words}
use Rattle.image_words.proofs.Sections.{length_section}
use Rattle.image_layout.specs.declared.Layout.{Layout}
use Rattle.image_layout.specs.Readers.{rows_of}
use Rattle.image_trailer.specs.declared.Trailer.{Trailer}
use Rattle.image_trailer.specs.Trailers.{meant, IsTrailer, trailer_told}
use Rattle.image_sections.specs.Tables.{TellsLayout}
use Rattle.image_sections.specs.Laid.{value, Laid, Read}
use Rattle.image_sections.proofs.Trailers.{bounds, parts, rows_bytes, part_length, told_fits}

-- a trailer by its six words
abbrev told : List ℕ → rules.Trailer
told ws = record { names_start = get_or ws 0 0; strings_start = get_or ws 1 0; pool_start = get_or ws 2 0; definitions_start = get_or ws 3 0; format = get_or ws 4 0; size = get_or ws 5 0 }

six : (ws : List ℕ) → length ws ≡ 6 → trailer (rest_at ws 0) ≡ some (told ws, rest_at ws 6)
unfolding trailer ◌>>=◌ bound word first give
six [] e = absurd (omega arith)
six (a ∷ []) e = absurd (omega arith)
six (a ∷ b ∷ []) e = absurd (omega arith)
six (a ∷ b ∷ c ∷ []) e = absurd (omega arith)
six (a ∷ b ∷ c ∷ d ∷ []) e = absurd (omega arith)
six (a ∷ b ∷ c ∷ d ∷ f ∷ []) e = absurd (omega arith)
six (a ∷ b ∷ c ∷ d ∷ f ∷ g ∷ rest) e = refl

-- steps of a reading that are settled
module _ {A : Type 0} where
  passed : (f : Unit {0} → Reader A) (p : Rest) {b : Bool} → b ≡ true → bound (rule b p) f ≡ f tt p
  unfolding rule bound
  passed f p e = rw e

  broken : (f : Unit {0} → Reader A) (p : Rest) {b : Bool} → b ≡ false → bound (rule b p) f ≡ none
  unfolding rule bound
  broken f p e = rw e

  taken : {B : Type 0} (r : Reader B) (ws : List ℕ) (f : B → Reader A) (p : Rest) {a : B} {q : Rest} → r (rest_at ws 0) ≡ some (a, q) → bound (from ws 0 r p) f ≡ f a p
  unfolding from bound
  taken r ws f p e = rw e

module _ (image : List ℕ) where
  -- too short or too long
  unsized : within 24 65536 (length image) ≡ false → readable image ≡ none
  unfolding readable schema ◌>>=◌
  unsized e = ap value (broken _ _ e)

  module _ (t : Trailer) (is : IsTrailer image t) (sized : within 24 65536 (length image) ≡ true) where
    read : trailer (rest_at (words (drop (length image - 24) image)) 0) ≡ some (meant t, rest_at (words (drop (length image - 24) image)) 6)
    unfolding section_words
    read =
        let b = bounds (length image) sized in
        let last : List ℕ = words (drop (length image - 24) image) in
        let n : length (drop (length image - 24) image) ≡ 4 * 6 = simp length-drop (omega arith) in
        let e : told last ≡ meant t = cc in
        six last (length_words 6 (drop (length image - 24) image) n) ∙ ap (λ (x : rules.Trailer). some (x, rest_at last 6)) e

    opened : readable image ≡ value (bound (rule (good_trailer (length image) (meant t)) (rest_at [] 0)) (λ _. sections image (length image) (meant t)))
    unfolding readable schema ◌>>=◌
    opened = ap value (passed _ _ sized ∙ taken _ _ _ _ read)

    bad : good_trailer (length image) (meant t) ≡ false → readable image ≡ none
    bad e = opened ∙ ap value (broken _ _ e)

    module _ {l : Layout} (good : good_trailer (length image) (meant t) ≡ true) (tells : TellsLayout image (meant t) l) where
      reads : readable image ≡ value (rows_of l (rest_at [] 0))
      unfolding sections section_words
      reads =
          let same : sections image (length image) (meant t) (rest_at [] 0) ≡ rows_of l (rest_at [] 0) = cc in
          opened ∙ ap value (passed _ _ good ∙ same)

      laid : Laid l
      laid =
          let b = bounds (length image) sized in
          let p = parts (length image) (meant t) good in
          let bytes : length l.image.now ≡ length image = ap length tells.bytes in
          let few : length l.pool.now ≤ 65536 = rw tells.pool (omega (arith, part_length image t.pool t.definitions (omega arith))) in
          let all : 16 * ((t.strings - t.names) / 16) ≡ t.strings - t.names = omega (arith, rows_bytes 4 p.names) in
          record {
            cut = record {
              inside = record {
                small = omega arith;
                names = told_fits (omega arith) p.names tells.names;
                strings = told_fits (omega arith) p.strings tells.strings;
                pool = omega (arith, length_section l.pool.now);
                definitions = told_fits (omega arith) p.definitions tells.definitions;
                few_names = omega (arith, tells.names.rows, p.names.few);
                few_definitions = omega (arith, tells.definitions.rows, p.definitions.few);
              };
              texts_end = omega arith;
              texts = rw (tells.names.words, tells.names.rows, tells.texts, tells.bytes, all) refl;
              names = tells.names.width;
              strings = tells.strings.width;
              definitions = tells.definitions.width;
            };
            reads = ap readable tells.bytes ∙ reads;
          }

is_told : (image : List ℕ) (t : Trailer) → IsTrailer image t → meant t ≡ trailer_told image
is_told image t is = cc

module _ (image : List ℕ) where
  pub unsized_read : within 24 65536 (length image) ≡ false → Read image None
  unsized_read e = (rw e refl, unsized image e)

  module _ (t : Trailer) (is : IsTrailer image t) (sized : within 24 65536 (length image) ≡ true) where
    pub bad_read : good_trailer (length image) (meant t) ≡ false → Read image None
    bad_read e = (rw (sized, ← is_told image t is) e, bad image t is sized e)

    pub good_read : good_trailer (length image) (meant t) ≡ true → {l : Layout} → TellsLayout image (meant t) l → Read image (Some l)
    good_read e {l} told = (rw (sized, ← is_told image t is) e, subst (λ (x : rules.Trailer). TellsLayout image x l) (is_told image t is) told, laid image t is sized e told)
