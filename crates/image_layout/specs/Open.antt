-- What a layer above knows of a readable image: its schema, and where each row's parts stand.
use Rattle.std.specs.Prelude.{ℕ, ◌≡◌, List, length, take, drop}
use Rattle.std.proofs.Math.Option.{Option, none, some}
use Rattle.std.proofs.Math.ListN.{get_elem?}
use Rattle.rules.specs.Words.{NONE}
use Rattle.rules.specs.Syntax.{ResolvedType, Name, TypeDef, CompiledSchema}
use Rattle.rules.specs.Reader.{Reader, rest_at}
use Rattle.rules.specs.Kinds.{definition_kind}
use Rattle.rules.specs.ReadTypes.{resolved_type}
use Rattle.rules.specs.ReadDefinitions.{message, generic_alias, trait, implementation}
use Rattle.rules.specs.Image.{readable}
use Rattle.rules.specs.declared.kinds.DefinitionKind.{DefinitionKind}
use Rattle.image_words.specs.Verdict.{section_words}
use Rattle.image_layout.specs.declared.Layout.{Layout}
use Rattle.image_layout.specs.Rows.{Inside, row_word}

-- the reader gives a of the words from `start` on
pub record Stored {A : Type 0} (r : Reader A) (ws : List ℕ) (start : ℕ) (a : A) : Type 0 where
  pub next : ℕ
  pub read : r (rest_at ws start) ≡ some (a, rest_at ws next)

-- a name's alias: none at NONE, else the type that stands in the pool
abbrev pub AliasStands : ℕ → List ℕ → ℕ → Option ResolvedType → Type 0
AliasStands names pool start none = start ≡ NONE
AliasStands names pool start (some t) = (start ≡ NONE → ⊥) × Stored (resolved_type names) pool start t

-- a definition of its row's kind, whose body stands in the pool
abbrev pub DefinitionStands : ℕ → ℕ → List ℕ → DefinitionKind → ℕ → TypeDef → Type 0
DefinitionStands names strings pool kind start TypeDef.other = kind ≡ DefinitionKind.Other
DefinitionStands names strings pool kind start (TypeDef.message m) = (kind ≡ DefinitionKind.Message) × Stored (message names) pool start m
DefinitionStands names strings pool kind start (TypeDef.generic_alias a) = (kind ≡ DefinitionKind.GenericAlias) × Stored (generic_alias names) pool start a
DefinitionStands names strings pool kind start (TypeDef.trait t) = (kind ≡ DefinitionKind.Trait) × Stored (trait names) pool start t
DefinitionStands names strings pool kind start (TypeDef.implementation i) = (kind ≡ DefinitionKind.Implementation) × Stored (implementation names strings) pool start i

-- over an image by its layout
module _ (l : Layout) where
  abbrev pub pool_words : List ℕ
  pool_words = section_words l.pool.now

  -- the words of name row i say n
  pub record NameStands (i : ℕ) (n : Name) : Type 0 where
    pub text : n.text ≡ take (row_word l.names i 1) (drop (row_word l.names i 0) l.image.now)
    pub definition : n.definition ≡ row_word l.names i 2
    pub alias : AliasStands l.names.rows pool_words (row_word l.names i 3) n.alias

  -- the words of string row i say where its text stands
  abbrev pub StringStands : ℕ → List ℕ → Type 0
  StringStands i text = text ≡ take (row_word l.strings i 1) (drop (row_word l.strings i 0) l.image.now)

  -- the image is readable, s is its schema, and every row says what s has there
  pub record Open (s : CompiledSchema) : Type 0 where
    pub inside : Inside l
    pub read : readable l.image.now ≡ some s
    pub names : length s.names ≡ l.names.rows
    pub strings : length s.strings ≡ l.strings.rows
    pub definitions : length s.definitions ≡ l.definitions.rows
    pub name : (i : ℕ) (n : Name) → get_elem? s.names i ≡ some n → NameStands i n
    pub string : (i : ℕ) (text : List ℕ) → get_elem? s.strings i ≡ some text → StringStands i text
    pub definition : (d : ℕ) (t : TypeDef) → get_elem? s.definitions d ≡ some t
        → DefinitionStands l.names.rows l.strings.rows pool_words (definition_kind (row_word l.definitions d 0)) (row_word l.definitions d 1) t
