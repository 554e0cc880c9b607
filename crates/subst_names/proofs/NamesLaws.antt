-- A name's row, as the rules' look-ups read it.
use Prim.Native.Nat.{ℕ, zero, suc, ◌+◌, ◌*◌, ◌<◌, ◌≤◌}
use mathlib.Core.Path.{◌≡◌, refl, sym, ap, ap₂, ◌∙◌}
use mathlib.Core.Bool.{Bool, true, false, cond, ◌&&◌}
use mathlib.Core.List.{List, [], ◌∷◌}
use mathlib.Core.Option.{Option, none, some}
use native.Mathlib.Omega.{arith}
use borrow.Author.Tests.{eq-eqb, ne_eqb, lt-ltb}
use lib.ListN.{length, take, drop, get_or, get_elem?}
use Rattle.rules.specs.Words.{NONE}
use Rattle.rules.specs.Options.{or, or_else, then}
use Rattle.rules.specs.Syntax.{ResolvedType, Param, Name, CompiledSchema}
use Rattle.rules.specs.Types.{POISON}
use Rattle.rules.specs.Substitute.{lookup_qualified, number, primitive, definition_of, find_param, lookup, lookup_primitive_alias, named_or_poison, resolve_name}
use Rattle.words.specs.Words.{word_at}
use Rattle.image_words.specs.Verdict.{section_words}
use Rattle.image_words.proofs.Sections.{section_at, length_section}
use Rattle.image_words.proofs.Steps.{true_false}
use Rattle.image_layout.specs.declared.Layout.{Layout}
use Rattle.image_layout.specs.Rows.{Cut, row_word}
use Rattle.image_layout.specs.Open.{Open, NameStands}
use Rattle.image_layout.proofs.Words.{part_word}
use Rattle.type_words.specs.declared.MaybeType.{MaybeType}
use Rattle.type_words.specs.Holds.{Holds, MaybeHolds}
use Rattle.image_texts.specs.Rows.{row_text, find_row, qualified_text}
use Rattle.image_texts.proofs.Names.{InRows, qualified_rule}

-- an element that is there, and none past the end
pub there : {A : Type 0} (xs : List A) (i : ℕ) → i < length xs → (a : A) × (get_elem? xs i ≡ some a)
there [] i h = absurd (omega arith)
there (x ∷ xs) zero h = (x, refl)
there (x ∷ xs) (suc i) h = there xs i (omega arith)

pub past : {A : Type 0} (xs : List A) (i : ℕ) → length xs ≤ i → get_elem? xs i ≡ none
past [] i h = refl
past (x ∷ xs) zero h = absurd (omega arith)
past (x ∷ xs) (suc i) h = past xs i (omega arith)

-- an index at which something stands
pub some_inside : {A : Type 0} (xs : List A) (i : ℕ) (a : A) → get_elem? xs i ≡ some a → i < length xs
some_inside [] i a e = absurd (let z : ◌≡◌ {A = ℕ} 0 1 = cc in omega arith)
some_inside (x ∷ xs) zero a e = omega arith
some_inside (x ∷ xs) (suc i) a e = let l = some_inside xs i a e in omega arith

-- the definition, or the alias where there is none
own : (n : Name) (d : ℕ) → n.definition ≡ d → (d ≡ NONE → ⊥) → definition_of n ≡ some d
unfolding definition_of
own n d e h =
    ap (λ (b : Bool). elim b as (λ _. Option ℕ) [ true ↦ then n.alias number | false ↦ some n.definition ]) (ne_eqb n.definition NONE (λ q. h (sym e ∙ q)))
    ∙ ap (λ (x : ℕ). some x) e

aliased : (n : Name) → n.definition ≡ NONE → definition_of n ≡ then n.alias number
unfolding definition_of
aliased n e = ap (λ (b : Bool). elim b as (λ _. Option ℕ) [ true ↦ then n.alias number | false ↦ some n.definition ]) (eq-eqb n.definition NONE e)

module _ {l : Layout} {s : CompiledSchema} (o : Open l s) (x : ℕ) (inside : x < l.names.rows) where
  -- the name that the row says
  pub row : (n : Name) × (get_elem? s.names x ≡ some n) × NameStands l x n
  row = let e = there s.names x (omega (arith, o.names)) in (e.0, e.1, o.name x e.0 e.1)

  found : lookup s x ≡ definition_of row.0
  unfolding lookup then
  found = ap (λ (o : Option Name). then o definition_of) row.1

  pub defined : (row_word l.names x 2 ≡ NONE → ⊥) → lookup s x ≡ some (row_word l.names x 2)
  defined h = found ∙ own row.0 (row_word l.names x 2) row.2.definition h

  pub named_alias : row_word l.names x 2 ≡ NONE → lookup s x ≡ then row.0.alias number
  named_alias h = found ∙ aliased row.0 (row.2.definition ∙ h)

  pub primitive_alias : lookup_primitive_alias s x ≡ then row.0.alias primitive
  unfolding lookup_primitive_alias then
  primitive_alias = ap (λ (o : Option Name). then o (λ n. then n.alias primitive)) row.1

-- no name has the number NONE
pub no_name : {l : Layout} {s : CompiledSchema} → Open l s → lookup s NONE ≡ none
unfolding lookup then
no_name {s = s} o = ap (λ (o : Option Name). then o definition_of) (past s.names NONE (omega (arith, o.names, o.inside.few_names)))

-- what is held, and what is not
pub maybe_some : (names : ℕ) (m : MaybeType) (o : Option ResolvedType) → MaybeHolds names m o → m.some ≡ true → (t : ResolvedType) × (o ≡ some t) × Holds names m.ty t
maybe_some names m none h e = absurd (true_false (sym e ∙ h))
maybe_some names m (some t) h e = (t, refl, h.1)

pub maybe_none : (names : ℕ) (m : MaybeType) (o : Option ResolvedType) → MaybeHolds names m o → m.some ≡ false → o ≡ none
maybe_none names m none h e = refl
maybe_none names m (some t) h e = absurd (true_false (sym h.0 ∙ e))

-- poison is the definition NONE
pub named_is : (o : Option ℕ) → named_or_poison o ≡ ResolvedType.named (or o NONE)
unfolding named_or_poison or
named_is none = refl
named_is (some n) = refl

module _ (s : CompiledSchema) where
  -- a name, by the first of the three that is there
  module _ (ps : List (Param ResolvedType)) (x : ℕ) where
    choose : {p q : Option ResolvedType} → find_param x ps ≡ p → lookup_primitive_alias s x ≡ q → resolve_name s ps x ≡ or (or_else p q) (named_or_poison (lookup s x))
    unfolding resolve_name
    choose e f = ap₂ (λ (p q : Option ResolvedType). or (or_else p q) (named_or_poison (lookup s x))) e f

    pub by_param : (t : ResolvedType) → find_param x ps ≡ some t → resolve_name s ps x ≡ t
    unfolding or or_else
    by_param t e = choose e refl

    pub by_primitive : (t : ResolvedType) → find_param x ps ≡ none → lookup_primitive_alias s x ≡ some t → resolve_name s ps x ≡ t
    unfolding or or_else
    by_primitive t e f = choose e f

    pub by_lookup : (d : ℕ) → find_param x ps ≡ none → lookup_primitive_alias s x ≡ none → d ≡ or (lookup s x) NONE → resolve_name s ps x ≡ ResolvedType.named d
    unfolding or or_else
    by_lookup d e f g = choose e f ∙ named_is (lookup s x) ∙ ap ResolvedType.named (sym g)

-- the texts of the rows are the names'
module _ {l : Layout} (cut : Cut l) (i : ℕ) (inside : i < l.names.rows) where
  word_is : (k : ℕ) → k < 4 → row_word l.names i k ≡ word_at l.image.now (l.texts + (16 * i + 4 * k))
  unfolding row_word
  word_is k h =
      let w : l.names.width ≡ 4 = cut.names in
      let size : length (section_words l.names.words.now) ≡ 4 * l.names.rows = cut.inside.names.whole ∙ ap (λ (n : ℕ). n * l.names.rows) w in
      let g : ℕ = get_or (section_words l.names.words.now) (l.names.width * i + k) 0 in
      ap₂ (λ (a b : Bool). cond (a && b) g 0) (lt-ltb i l.names.rows inside) (lt-ltb k l.names.width (omega arith))
      ∙ ap (λ (n : ℕ). get_or (section_words l.names.words.now) (n * i + k) 0) w
      ∙ sym (section_at l.names.words.now (4 * i + k) (omega (arith, size, length_section l.names.words.now)))
      ∙ ap (λ (xs : List ℕ). word_at xs (4 * (4 * i + k))) cut.texts
      ∙ part_word l.image.now l.texts (16 * l.names.rows) (4 * (4 * i + k)) (omega arith)
      ∙ ap (word_at l.image.now) (omega arith)

  pub text_is : take (row_word l.names i 1) (drop (row_word l.names i 0) l.image.now) ≡ row_text l.image.now l.texts i
  unfolding row_text
  text_is =
      ap₂ (λ (a b : ℕ). take a (drop b l.image.now))
      (word_is 1 (omega arith) ∙ ap (word_at l.image.now) (omega arith))
      (word_is 0 (omega arith) ∙ ap (word_at l.image.now) (omega arith))

pub in_rows : {l : Layout} {s : CompiledSchema} → Cut l → Open l s → InRows l.image.now l.texts s.names
in_rows {l} {s} cut o i n e = let h : i < l.names.rows = omega (arith, some_inside s.names i n e, o.names) in (o.name i n e).text ∙ text_is cut i h

-- a qualified name's definition is that of the row with its text
pub qualified_at : {l : Layout} {s : CompiledSchema} → Cut l → Open l s → (q x : ℕ) → q < l.names.rows → x < l.names.rows → (row : ℕ)
    → row ≡ find_row l.image.now l.texts l.names.rows (qualified_text l.image.now l.texts q x) → lookup_qualified s q x ≡ lookup s row
qualified_at {l} {s} cut o q x i j row e =
    let few : length s.names ≤ NONE = omega (arith, o.names, o.inside.few_names) in
    qualified_rule l.image.now l.texts s (in_rows cut o) few q x (omega (arith, o.names)) (omega (arith, o.names))
    ∙ ap (λ (n : ℕ). lookup s (find_row l.image.now l.texts n (qualified_text l.image.now l.texts q x))) o.names
    ∙ ap (lookup s) (sym e)

-- and its type, by that row
pub qualified_none : {l : Layout} {s : CompiledSchema} → Open l s → (q x row : ℕ) → lookup_qualified s q x ≡ lookup s row → row ≡ NONE
    → named_or_poison (lookup_qualified s q x) ≡ POISON
unfolding or
qualified_none {s = s} o q x row e z = named_is (lookup_qualified s q x) ∙ ap (λ (n : Option ℕ). ResolvedType.named (or n NONE)) (e ∙ ap (lookup s) z ∙ no_name o)

pub qualified_some : (s : CompiledSchema) (q x row d : ℕ) → lookup_qualified s q x ≡ lookup s row → d ≡ or (lookup s row) NONE → named_or_poison (lookup_qualified s q x) ≡ ResolvedType.named d
qualified_some s q x row d e g = named_is (lookup_qualified s q x) ∙ ap (λ (n : Option ℕ). ResolvedType.named (or n NONE)) e ∙ ap ResolvedType.named (sym g)
