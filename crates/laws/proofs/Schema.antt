-- A readable image holds a good schema, and what is so of all words that stand in its pool is so of its types and definitions.
use Prim.Native.Nat.{ℕ, zero, suc, ◌-◌, ◌*◌, ◌/◌, ◌%◌, ◌≤◌}
use mathlib.Core.Path.{◌≡◌, refl, sym, ap, subst}
use mathlib.Core.Bool.{Bool, true, false, ◌&&◌}
use mathlib.Core.List.{List, [], ◌∷◌, ◌++◌}
use mathlib.Core.Option.{Option, none, some}
use native.Mathlib.Omega.{arith}
use lib.ListN.{length, drop, length-append, length-take, length-drop}
use lib.Dec.{leb, eqb}
use borrow.Author.Tests.{leb-true}
use Rattle.rules.specs.Words.{NONE, words}
use Rattle.rules.specs.Utf8.{well_formed}
use Rattle.rules.specs.Syntax.{run, Name, TypeDef, CompiledSchema}
use Rattle.rules.specs.Reader.{Rest, rest_at, Reader, from, repeat, times}
use Rattle.rules.specs.Kinds.{definition_kind}
use Rattle.rules.specs.declared.kinds.DefinitionKind.{DefinitionKind}
use Rattle.rules.specs.Image.{part, Trailer, good_trailer, whole_rows, name_width, string_width, definition_width, trailer, alias_at, name_row, string_row, definition_node, definition_row, rows, sections, schema, readable}
use Rattle.rules.proofs.Clash.{clash}
use Rattle.rules.specs.Good.{All, AllOption, Stored}
use Rattle.rules.proofs.Gives as gives
use Rattle.rules.specs.Exact.{Gives, Exact}
use Rattle.rules.proofs.Types.{type_exact, within_true}
use Rattle.laws.proofs.Each.{map_all}
use Rattle.laws.specs.DefinitionRuns.{message_words, generic_alias_words, trait_words, implementation_words}
use Rattle.laws.proofs.Definitions.{message_exact, generic_alias_exact, trait_exact, implementation_exact}
use Rattle.laws.specs.GoodSchema.{most_words, GoodName, GoodDefinition, GoodSchema}

-- what a definition has in the pool
abbrev pub definition_words : TypeDef → List ℕ
definition_words TypeDef.other = []
definition_words (TypeDef.message m) = message_words m
definition_words (TypeDef.generic_alias a) = generic_alias_words a
definition_words (TypeDef.trait t) = trait_words t
definition_words (TypeDef.implementation i) = implementation_words i

-- so many readings, of each of which something holds
times_all : {A : Type 0} {r : Reader A} {P : A → Type 0} → Gives r (λ a ws. P a) → (n : ℕ) → Gives (times n r) (λ xs ws. All P xs × (length xs ≡ n))
unfolding repeat
times_all g zero = gives.give_gives [] _ (tt, refl)
times_all g (suc n) = gives.then_gives g (λ x vs h. gives.last_gives _ (times_all g n) (λ xs ws i. ((h, i.0), ap suc i.1)))

-- a property of all words that stand in a list from some place on
abbrev pub Throughout : (List ℕ → Type 0) → List ℕ → Type 0
Throughout Q pool = (start : ℕ) (taken rest : List ℕ) → drop start pool ≡ taken ++ rest → Q taken

-- what stands in the pool is no longer than it, and has the property
from_exact : {A : Type 0} {r : Reader A} {run : A → List ℕ} {Good : A → Type 0} (Q : List ℕ → Type 0) (pool : List ℕ) → Throughout Q pool → (start : ℕ) → Exact r run Good
    → Gives (from pool start r) (λ a ws. Good a × (length (run a) ≤ length pool) × Q (run a))
from_exact {A} {r} {run} Q pool has start e = gives.so (gives.from_gives pool start e.gives) (λ a ws h.
    let s = h.1 in (
      s.holds.good,
      omega (arith, length-drop start pool, ap length s.there, length-append s.taken s.rest, ap length s.holds.is),
      subst Q s.holds.is (has start s.taken s.rest s.there),
    ))

and_true_left : (a b : Bool) → (a && b) ≡ true → a ≡ true
and_true_left true b e = refl
and_true_left false b e = clash (cc)

and_true_right : (a b : Bool) → (a && b) ≡ true → b ≡ true
and_true_right true b e = e
and_true_right false b e = clash (cc)

-- four bytes a word
words_length : (bs : List ℕ) → 4 * length (words bs) ≤ length bs
unfolding words
words_length [] = omega arith
words_length (a ∷ []) = omega arith
words_length (a ∷ b ∷ []) = omega arith
words_length (a ∷ b ∷ c ∷ []) = omega arith
words_length (a ∷ b ∷ c ∷ d ∷ bs) = omega (arith, words_length bs)

part_length : (image : List ℕ) (start stop : ℕ) → length (part image start stop) ≤ length image
part_length image start stop = omega (arith, length-take (stop - start) (drop start image), length-drop start image)

-- a property of the words of an alias's type, where there is one, and of a definition
abbrev pub AliasHas : (List ℕ → Type 0) → Name → Type 0
AliasHas Q n = AllOption (λ t. Q (run t)) n.alias

abbrev pub DefinitionHas : (List ℕ → Type 0) → TypeDef → Type 0
DefinitionHas Q d = Q (definition_words d)

-- what an image holds: a good schema, over its numbers of names and strings, and the property of what stands in the pool
pub record Held (Q : List ℕ → Type 0) (s : CompiledSchema) : Type 0 where
  pub good : GoodSchema (length s.names) (length s.strings) s
  pub aliases : All (AliasHas Q) s.names
  pub definitions : All (DefinitionHas Q) s.definitions

module _ (Q : List ℕ → Type 0) (image : List ℕ) (texts : ℕ) (pool : List ℕ) (names strings definitions : ℕ) (few : length pool ≤ most_words) (has : Throughout Q pool) where
  alias_gives : (start : ℕ) → Gives (alias_at image texts pool names strings definitions start) (λ o ws. AllOption (Stored names) o × AllOption (λ t. Q (run t)) o)
  unfolding alias_at
  alias_gives start =
      gives.cond_gives (eqb start NONE) (λ e. gives.give_gives none _ (tt, tt)) (λ e. gives.last_gives _ (from_exact Q pool has start (type_exact names)) (λ t ws h. (h.0, h.2)))

  name_row_gives : Gives (name_row image texts pool names strings definitions) (λ n ws. GoodName names definitions n × AliasHas Q n)
  unfolding name_row
  name_row_gives = gives.word_then (λ start. gives.word_then (λ size. gives.word_then (λ definition. gives.word_then (λ alias.
      gives.rule_then _ _ (λ a. gives.rule_then _ _ (λ _. gives.rule_then _ _ (λ formed. gives.rule_then _ _ (λ b. gives.last_gives _ (alias_gives alias) (λ t ws h.
      let w = within_true 1 255 size a in
      (record { text = omega (arith, length-take size (drop start image), w.1); text_formed = formed; definition = b; alias = h.0 }, h.1))))))))))

  string_row_gives : Gives (string_row image texts pool names strings definitions) (λ text ws. well_formed text ≡ true)
  unfolding string_row
  string_row_gives = gives.word_then (λ start. gives.word_then (λ size. gives.rule_then _ _ (λ _. gives.rule_then _ _ (λ formed. gives.give_gives _ _ formed))))

  node_gives : (k : DefinitionKind) (start : ℕ) → Gives (definition_node image texts pool names strings definitions k start) (λ d ws. GoodDefinition names strings d × DefinitionHas Q d)
  unfolding definition_node
  node_gives DefinitionKind.Other start = gives.give_gives _ _ (tt, has 0 [] pool refl)
  node_gives DefinitionKind.Message start = gives.last_gives _ (from_exact Q pool has start (message_exact names)) (λ m ws h. (h.0, h.2))
  node_gives DefinitionKind.GenericAlias start = gives.last_gives _ (from_exact Q pool has start (generic_alias_exact names)) (λ m ws h. (h.0, h.2))
  node_gives DefinitionKind.Trait start = gives.last_gives _ (from_exact Q pool has start (trait_exact names)) (λ m ws h. (h.0, h.2))
  node_gives DefinitionKind.Implementation start =
      gives.last_gives _ (from_exact Q pool has start (implementation_exact names strings)) (λ i ws h. ((h.0, omega (arith, h.1)), h.2))
  node_gives DefinitionKind.Unknown start = gives.fail_gives

  definition_row_gives : Gives (definition_row image texts pool names strings definitions) (λ d ws. GoodDefinition names strings d × DefinitionHas Q d)
  unfolding definition_row
  definition_row_gives = gives.word_then (λ kind. gives.word_then (λ start. node_gives (definition_kind kind) start))

  rows_give : names ≤ 1024 → strings ≤ 1024 → definitions ≤ 256 → (name_words string_words definition_words : List ℕ)
      → Gives (rows image texts pool names strings definitions name_words string_words definition_words) (λ s ws. Held Q s)
  unfolding rows
  rows_give n m d name_words string_words definition_words =
      gives.then_gives (gives.from_gives name_words 0 (times_all name_row_gives names)) (λ ns us h.
      gives.rule_then _ _ (λ different.
      gives.then_gives (gives.from_gives string_words 0 (times_all string_row_gives strings)) (λ ss vs i.
      gives.last_gives _ (gives.from_gives definition_words 0 (times_all definition_row_gives definitions)) (λ ds ws j.
      let read = h.1.holds in
      let texts = i.1.holds in
      let bodies = j.1.holds in
      let held : CompiledSchema = record { names = ns; strings = ss; definitions = ds } in
      let good : GoodSchema names strings held = record {
        few_names = omega (arith, read.1);
        few_strings = omega (arith, texts.1);
        few_definitions = omega (arith, bodies.1);
        names_good = subst (λ (m : ℕ). All (GoodName names m) ns) (sym bodies.1) (map_all (λ n g. g.0) ns read.0);
        different = different;
        strings_good = texts.0;
        definitions_good = map_all (λ d g. g.0) ds bodies.0;
      } in
      record {
        good = rw (read.1, texts.1) good;
        aliases = map_all (λ n g. g.1) ns read.0;
        definitions = map_all (λ d g. g.1) ds bodies.0;
      }))))

trailer_gives : Gives trailer (λ t ws. Unit {0})
unfolding trailer
trailer_gives =
    gives.word_then (λ a. gives.word_then (λ b. gives.word_then (λ c. gives.word_then (λ d. gives.word_then (λ e. gives.word_then (λ f. gives.give_gives _ _ tt))))))

-- what a trailer's test says of the numbers of rows
few_rows : (start stop width most : ℕ) → whole_rows start stop width most ≡ true → (stop - start) / width ≤ most
unfolding whole_rows
few_rows start stop width most e = leb-true ((stop - start) / width) most (and_true_right (leb start stop && eqb ((stop - start) % width) 0) (leb ((stop - start) / width) most) e)

-- of six tests the third, the fourth and the last
row_tests : (a b c d e f : Bool) → (a && b && c && d && e && f) ≡ true → (c ≡ true) × (d ≡ true) × (f ≡ true)
row_tests a b c d e f h =
    let five = and_true_left (a && b && c && d && e) f h in
    let four = and_true_left (a && b && c && d) e five in
    (and_true_right (a && b) c (and_true_left (a && b && c) d four), and_true_right (a && b && c) d four, and_true_right (a && b && c && d && e) f h)

module _ (Q : List ℕ → Type 0) (image : List ℕ) (has : (start stop : ℕ) → Throughout Q (words (part image start stop))) where
  sections_give : (size : ℕ) (t : Trailer) → length image ≤ 65536 → good_trailer size t ≡ true → Gives (sections image size t) (λ s ws. Held Q s)
  unfolding sections good_trailer
  sections_give size t l e =
      let pool : List ℕ = words (part image t.pool_start t.definitions_start) in
      let few : length pool ≤ most_words = omega (arith, words_length (part image t.pool_start t.definitions_start), part_length image t.pool_start t.definitions_start) in
      let tests = row_tests (eqb t.format 1) (eqb t.size size) (whole_rows t.names_start t.strings_start name_width 1024)
      (whole_rows t.strings_start t.pool_start string_width 1024) (whole_rows t.pool_start t.definitions_start 4 65536)
      (whole_rows t.definitions_start (size - 24) definition_width 256) e in
      let names_few = few_rows t.names_start t.strings_start name_width 1024 tests.0 in
      let strings_few = few_rows t.strings_start t.pool_start string_width 1024 tests.1 in
      let definitions_few = few_rows t.definitions_start (size - 24) definition_width 256 tests.2 in
      rows_give Q image t.names_start pool _ _ _ few (has t.pool_start t.definitions_start) names_few strings_few definitions_few _ _ _

  schema_gives : Gives (schema image (length image)) (λ s ws. Held Q s)
  unfolding schema
  schema_gives =
      gives.rule_then _ _ (λ a. gives.then_gives (gives.from_gives _ 0 trailer_gives) (λ t vs h.
      gives.rule_then _ _ (λ b. sections_give (length image) t (within_true 24 65536 (length image) a).1 b)))

  pub readable_held : (s : CompiledSchema) → readable image ≡ some s → Held Q s
  unfolding readable
  readable_held s e = go (schema image (length image) (rest_at [] 0)) refl e
    where
      go : (o : Option (CompiledSchema × Rest)) → schema image (length image) (rest_at [] 0) ≡ o
          → ◌≡◌ {A = Option CompiledSchema} (elim o as (λ _. Option CompiledSchema) [ none ↦ none | some p ↦ some p.0 ]) (some s) → Held Q s
      go none q e = clash (cc)
      go (some p) q e = let same : p.0 ≡ s = cc in subst (Held Q) same (schema_gives.found (rest_at [] 0) p.0 p.1 q).holds

-- what an image holds is good, over its numbers of names and strings
pub readable_good : (image : List ℕ) (s : CompiledSchema) → readable image ≡ some s → GoodSchema (length s.names) (length s.strings) s
readable_good image s e = (readable_held (λ _. Unit {0}) image (λ start stop at taken rest there. tt) s e).good
