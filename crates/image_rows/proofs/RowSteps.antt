-- From what the code reads of a row to what the rules' reader of that row says.
use Prim.Native.Nat.{ℕ, ◌+◌, ◌*◌, ◌-◌, ◌<◌, ◌≤◌}
use mathlib.Core.Path.{◌≡◌, refl, sym, ap, subst, ◌∙◌}
use mathlib.Core.Bool.{Bool, true, false}
use mathlib.Core.List.{List, [], ◌∷◌}
use mathlib.Core.Option.{some}
use Rattle.std.specs.Prelude.{Option, Some, None, is_some}
use native.Mathlib.Omega.{arith}
use native.Mathlib.Nat.{mul-suc, add-sub_cancel_left}
use native.Mathlib.Numerals.{add-one}
use lib.ListN.{length, take, drop, get_or}
use borrow.Author.Tests.{eq-eqb, ne_eqb, lt-ltb}
use Rattle.rules.specs.Words.{NONE}
use Rattle.rules.specs.Utf8.{well_formed}
use Rattle.rules.specs.Reader.{Rest, Reader, ◌>>=◌, give, rule, word, times, from}
use Rattle.rules.specs.ReadTypes.{resolved_type}
use Rattle.rules.specs.Image.{alias_at, definition_node, definition_row}
use Rattle.rules.specs.declared.kinds.DefinitionKind.{DefinitionKind}
use Rattle.image_words.specs.Verdict.{section_words, Says}
use Rattle.image_words.proofs.Verdict.{Left}
use Rattle.image_words.proofs.Says.{word_in, word_then, given, from_then, from_stop, nothing, rule_alone, rule_alone_stop}
use Rattle.image_words.proofs.Loops.{turn, turn_stop, turn_done}
use Rattle.image_layout.specs.declared.Table.{Table}
use Rattle.image_layout.specs.declared.Layout.{Layout}
use Rattle.image_layout.specs.declared.NameRow.{NameRow}
use Rattle.image_layout.specs.declared.StringRow.{StringRow}
use Rattle.image_layout.specs.declared.DefinitionRow.{DefinitionRow}
use Rattle.image_layout.specs.Rows.{Fits, Cut, row_word, IsNameRow, IsStringRow, IsDefinitionRow}
use Rattle.image_layout.specs.Readers.{definition_row_of}
use Rattle.image_layout.proofs.Words.{row_inside}
use Rattle.image_rows.specs.Verdict.{verdict}

-- a word of a row is one of its section's
module _ (t : Table) (i k : ℕ) (below : i < t.rows) (inside : k < t.width) where
  pub row_at : row_word t i k ≡ get_or (section_words t.words.now) (t.width * i + k) 0
  unfolding row_word
  row_at = rw (lt-ltb i t.rows below, lt-ltb k t.width inside)

  step : Fits t → {A : Type 0} (f : ℕ → Reader A) {at : ℕ} → at ≡ t.width * i + k → {w : ℕ} → w ≡ row_word t i k → {d : Option ℕ}
      → Says (f w) (section_words t.words.now) (at + 1) d → Says (word >>= f) (section_words t.words.now) at d
  step fits f {at} e {w} q h =
      let l : at < length (section_words t.words.now) = omega (arith, row_inside t.width i t.rows k below inside, fits.whole) in
      word_then f (word_in l) (q ∙ row_at ∙ ap (λ (n : ℕ). get_or (section_words t.words.now) n 0) (sym e)) h

-- all words of a row, and then what follows
module _ {t : Table} (fits : Fits t) {i : ℕ} (below : i < t.rows) {A : Type 0} {r : Option ℕ} where
  two_then : t.width ≡ 2 → (f : ℕ → ℕ → Reader A) {a b : ℕ} → a ≡ row_word t i 0 → b ≡ row_word t i 1
      → Says (f a b) (section_words t.words.now) (t.width * (i + 1)) r → Says (word >>= λ a. word >>= λ b. f a b) (section_words t.words.now) (t.width * i) r
  two_then w f {a} {b} p q h =
      let e : t.width * (i + 1) ≡ t.width * i + 1 + 1 = rw (add-one i) (omega (arith, mul-suc t.width i)) in
      step t i 0 below (omega arith) fits _ (omega arith) p (step t i 1 below (omega arith) fits _ (omega arith) q (rw e at h))

  four_then : t.width ≡ 4 → (f : ℕ → ℕ → ℕ → ℕ → Reader A) {a b c d : ℕ} → a ≡ row_word t i 0 → b ≡ row_word t i 1 → c ≡ row_word t i 2 → d ≡ row_word t i 3
      → Says (f a b c d) (section_words t.words.now) (t.width * (i + 1)) r
      → Says (word >>= λ a. word >>= λ b. word >>= λ c. word >>= λ d. f a b c d) (section_words t.words.now) (t.width * i) r
  four_then w f {a} {b} {c} {d} p q u v h =
      let e : t.width * (i + 1) ≡ t.width * i + 1 + 1 + 1 + 1 = rw (add-one i) (omega (arith, mul-suc t.width i)) in
      step t i 0 below (omega arith) fits _ (omega arith) p (step t i 1 below (omega arith) fits _ (omega arith) q
      (step t i 2 below (omega arith) fits _ (omega arith) u (step t i 3 below (omega arith) fits _ (omega arith) v (rw e at h))))

-- a name's row, and a string's
pub name_then : {l : Layout} → Cut l → {i : ℕ} → i < l.names.rows → {row : NameRow} → IsNameRow l i row → {A : Type 0} (f : ℕ → ℕ → ℕ → ℕ → Reader A) {r : Option ℕ}
    → Says (f row.start row.size row.definition.0 row.alias) (section_words l.names.words.now) (l.names.width * (i + 1)) r
    → Says (word >>= λ a. word >>= λ b. word >>= λ c. word >>= λ d. f a b c d) (section_words l.names.words.now) (l.names.width * i) r
name_then cut below is f h = four_then cut.inside.names below cut.names f is.start is.size is.definition is.alias h

pub string_then : {l : Layout} → Cut l → {i : ℕ} → i < l.strings.rows → {row : StringRow} → IsStringRow l i row → {A : Type 0} (f : ℕ → ℕ → Reader A) {r : Option ℕ}
    → Says (f row.start row.size) (section_words l.strings.words.now) (l.strings.width * (i + 1)) r
    → Says (word >>= λ a. word >>= λ b. f a b) (section_words l.strings.words.now) (l.strings.width * i) r
string_then cut below is f h = two_then cut.inside.strings below cut.strings f is.start is.size h

-- a body that stands elsewhere; the own place stays
pub elsewhere : {A B : Type 0} {r : Reader A} (f : A → B) {words : List ℕ} {start : ℕ} (c : Option ℕ) → Says r words start c → {b : Bool} → b ≡ is_some c → {ws : List ℕ} {at : ℕ}
    → Says (from words start r >>= λ a. give (f a)) ws at (verdict b at)
elsewhere f None s e = rw e (from_stop s _)
elsewhere f (Some n) s e = rw e (from_then s (λ a. given (f a)))

-- a last rule
pub last_rule : {b c : Bool} → b ≡ c → {ws : List ℕ} {at : ℕ} → Says (rule b) ws at (verdict c at)
last_rule {b} e {ws} {at} = subst (λ (c : Bool). Says (rule b) ws at (verdict c at)) e (go b)
  where
    go : (b : Bool) → Says (rule b) ws at (verdict b at)
    go true = rule_alone refl
    go false = rule_alone_stop refl

-- a row's own text, cut out of the image by its start and end
pub own_text : (image : List ℕ) (start size : ℕ) {r : Bool} → r ≡ well_formed (take (start + size - start) (drop start image)) → well_formed (take size (drop start image)) ≡ r
own_text image start size f = sym (f ∙ ap (λ (n : ℕ). well_formed (take n (drop start image))) (add-sub_cancel_left start size))

-- an alias: none, or a type in the pool
module _ (image : List ℕ) (texts : ℕ) (pool : List ℕ) (names strings definitions : ℕ) (start : ℕ) {ws : List ℕ} {at : ℕ} where
  pub alias_none : start ≡ NONE → Says (alias_at image texts pool names strings definitions start) ws at (Some at)
  unfolding alias_at
  alias_none e = simp (eq-eqb start NONE e) (given _)

  pub alias_read : (start ≡ NONE → ⊥) → (c : Option ℕ) → Says (resolved_type names) pool start c → {b : Bool} → b ≡ is_some c → Says (alias_at image texts pool names strings definitions start) ws at (verdict b at)
  unfolding alias_at
  alias_read n c s e = simp (ne_eqb start NONE n) (elsewhere some c s e)

-- a definition's row, by its kind
pub definition_then : {l : Layout} → Cut l → {i : ℕ} → i < l.definitions.rows → {row : DefinitionRow} → IsDefinitionRow l i row
    → {k : DefinitionKind} → row.kind ≡ k → {r : Option ℕ}
    → Says (definition_node l.image.now l.texts (section_words l.pool.now) l.names.rows l.strings.rows l.definitions.rows k row.start) (section_words l.definitions.words.now) (l.definitions.width * (i + 1)) r
    → Says (definition_row_of l) (section_words l.definitions.words.now) (l.definitions.width * i) r
unfolding definition_row
definition_then cut below is told h = two_then cut.inside.definitions below cut.definitions _ refl (is.start below) (rw (sym told ∙ is.kind below) at h)

-- a loop over rows of w words
abbrev pub RowsLeft : {A : Type 0} → Reader A → List ℕ → ℕ → ℕ → ℕ → Type 0
RowsLeft r ws w n i = (i ≤ n) × Left (times (n - i) r) (w * i) (times n r) ws 0

module _ {A : Type 0} (r : Reader A) {ws : List ℕ} (w n : ℕ) where
  pub rows_start : RowsLeft r ws w n 0
  rows_start =
      let z : w * 0 ≡ 0 = omega arith in
      let m : n - 0 ≡ n = omega arith in
      (omega arith, record { so = λ d h. rw (z, m) at h })

  module _ (i : ℕ) (inv : RowsLeft r ws w n i) where
    pub rows_next : i < n → {b : Bool} → Says r ws (w * i) (verdict b (w * (i + 1))) → b ≡ true → RowsLeft r ws w n (i + 1)
    rows_next l {b} s y = (omega arith, turn [] ◌∷◌ r n i inv.1 l (subst (λ (x : Bool). Says r ws (w * i) (verdict x (w * (i + 1)))) y s))

    pub rows_stop : i < n → {b : Bool} → Says r ws (w * i) (verdict b (w * (i + 1))) → b ≡ false → Says (times n r) ws 0 None
    rows_stop l s y = turn_stop [] ◌∷◌ r n i inv.1 l (subst (λ (x : Bool). Says r ws (w * i) (verdict x (w * (i + 1)))) y s)

    pub rows_done : n ≤ i → Says (times n r) ws 0 (verdict true (w * n))
    rows_done l = let e : i ≡ n = omega arith in subst (λ (k : ℕ). Says (times n r) ws 0 (verdict true (w * k))) e (turn_done [] ◌∷◌ r n i inv.1 l)
