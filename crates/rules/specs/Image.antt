-- The schema image: five sections of whole rows, then a trailer of six words. `readable` gives the schema, or nothing where a rule or bound is broken.
use Rattle.std.specs.Prelude.{ℕ, ◌+◌, ◌-◌, ◌/◌, ◌%◌, Bool, true, false, cond, ◌&&◌, ◌||◌, List, [], ◌∷◌, length, take, drop, ltb, leb, eqb}
use Rattle.std.proofs.Math.Option.{Option, none, some}
use Rattle.rules.specs.Words.{NONE, within, words, same}
use Rattle.rules.specs.Utf8.{well_formed}
use Rattle.rules.specs.Syntax.{ResolvedType, TypeDef, Name, CompiledSchema}
use Rattle.rules.specs.Reader.{Reader, rest_at, ◌>>=◌, give, fail, rule, word, times, from}
use Rattle.rules.specs.Kinds.{definition_kind}
use Rattle.rules.specs.ReadTypes.{resolved_type}
use Rattle.rules.specs.ReadDefinitions.{message, generic_alias, trait, implementation}
use Rattle.rules.specs.declared.kinds.DefinitionKind.{DefinitionKind}

-- a text that no name has; names whose texts are all different
unfoldable pub new_text : List ℕ → List Name → Bool
new_text t [] = true
new_text t (n ∷ ns) = elim (same t n.text) [ true ↦ false | false ↦ new_text t ns ]

unfoldable pub different_texts : List Name → Bool
different_texts [] = true
different_texts (n ∷ ns) = elim (new_text n.text ns) [ true ↦ different_texts ns | false ↦ false ]

-- the bytes from `start` to `stop`
abbrev pub part : List ℕ → ℕ → ℕ → List ℕ
part image start stop = take (stop - start) (drop start image)

-- where the sections start, the format, and the image's length
pub record Trailer : Type 0 where
  pub names_start : ℕ
  pub strings_start : ℕ
  pub pool_start : ℕ
  pub definitions_start : ℕ
  pub format : ℕ
  pub size : ℕ

unfoldable pub trailer : Reader Trailer
trailer = do
  a ← word
  b ← word
  c ← word
  d ← word
  e ← word
  f ← word
  give (record { names_start = a; strings_start = b; pool_start = c; definitions_start = d; format = e; size = f })

-- the bytes of a row
abbrev pub name_width : ℕ
name_width = 16

abbrev pub string_width : ℕ
string_width = 8

abbrev pub definition_width : ℕ
definition_width = 8

-- whole rows of `width` bytes from `start` to `stop`, at most `most`
unfoldable pub whole_rows : ℕ → ℕ → ℕ → ℕ → Bool
whole_rows start stop width most = leb start stop && eqb ((stop - start) % width) 0 && leb ((stop - start) / width) most

-- format 1, the image's length, adjoining sections of whole rows and not too many; the pool's words have no bound but the image's length
unfoldable pub good_trailer : ℕ → Trailer → Bool
good_trailer size t =
    eqb t.format 1 && eqb t.size size
    && whole_rows t.names_start t.strings_start name_width 1024
    && whole_rows t.strings_start t.pool_start string_width 1024
    && whole_rows t.pool_start t.definitions_start 4 65536
    && whole_rows t.definitions_start (size - 24) definition_width 256

-- over the image, the length of its texts, the pool's words and the numbers of rows
module _ (image : List ℕ) (texts : ℕ) (pool : List ℕ) (names strings definitions : ℕ) where
  -- whether a text of so many bytes lies inside the texts, and its bytes
  abbrev pub text_inside : ℕ → ℕ → Bool
  text_inside start size = leb (start + size) texts

  abbrev pub text_at : ℕ → ℕ → List ℕ
  text_at start size = take size (drop start image)

  unfoldable pub alias_at : ℕ → Reader (Option ResolvedType)
  alias_at start = cond (eqb start NONE) (give none) (from pool start (resolved_type names) >>= λ t. give (some t))

  -- a text of 1 to 255 bytes inside the texts, well-formed by itself; a definition that exists or NONE; an alias's type or NONE
  unfoldable pub name_row : Reader Name
  name_row = do
    start ← word
    size ← word
    definition ← word
    alias ← word
    _ ← rule (within 1 255 size)
    _ ← rule (text_inside start size)
    _ ← rule (well_formed (text_at start size))
    _ ← rule (ltb definition definitions || eqb definition NONE)
    t ← alias_at alias
    give (record { text = text_at start size; definition = definition; alias = t })

  -- a text inside the texts, of any length, well-formed by itself
  unfoldable pub string_row : Reader (List ℕ)
  string_row = do
    start ← word
    size ← word
    _ ← rule (text_inside start size)
    _ ← rule (well_formed (text_at start size))
    give (text_at start size)

  unfoldable pub definition_node : DefinitionKind → ℕ → Reader TypeDef
  definition_node DefinitionKind.Other start = give TypeDef.other
  definition_node DefinitionKind.Message start = from pool start (message names) >>= λ m. give (TypeDef.message m)
  definition_node DefinitionKind.GenericAlias start = from pool start (generic_alias names) >>= λ a. give (TypeDef.generic_alias a)
  definition_node DefinitionKind.Trait start = from pool start (trait names) >>= λ t. give (TypeDef.trait t)
  definition_node DefinitionKind.Implementation start = from pool start (implementation names strings) >>= λ i. give (TypeDef.implementation i)
  definition_node DefinitionKind.Unknown start = fail

  unfoldable pub definition_row : Reader TypeDef
  definition_row = do
    kind ← word
    start ← word
    definition_node (definition_kind kind) start

  -- the rows of names, strings and definitions, each from its section's words
  unfoldable pub rows : List ℕ → List ℕ → List ℕ → Reader CompiledSchema
  rows name_words string_words definition_words = do
    ns ← from name_words 0 (times names name_row)
    _ ← rule (different_texts ns)
    ss ← from string_words 0 (times strings string_row)
    ds ← from definition_words 0 (times definitions definition_row)
    give (record { names = ns; strings = ss; definitions = ds })

-- the sections behind a good trailer
unfoldable pub sections : List ℕ → ℕ → Trailer → Reader CompiledSchema
sections image size t =
    let section : ℕ → ℕ → List ℕ = λ start stop. words (part image start stop) in
    let pool : List ℕ = section t.pool_start t.definitions_start in
    let end : ℕ = size - 24 in
    rows image t.names_start pool
    ((t.strings_start - t.names_start) / name_width) ((t.pool_start - t.strings_start) / string_width) ((end - t.definitions_start) / definition_width)
    (section t.names_start t.strings_start) (section t.strings_start t.pool_start) (section t.definitions_start end)

unfoldable pub schema : List ℕ → ℕ → Reader CompiledSchema
schema image size = do
  _ ← rule (within 24 65536 size)
  t ← from (words (drop (size - 24) image)) 0 trailer
  _ ← rule (good_trailer size t)
  sections image size t

-- what the image holds, or nothing
unfoldable pub readable : List ℕ → Option CompiledSchema
readable image = elim (schema image (length image) (rest_at [] 0)) [ none ↦ none | some p ↦ some p.0 ]
