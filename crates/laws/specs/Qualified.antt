-- A qualified name's definition, or Named alias, is that of the one name which has its text. proofs/Qualified.antt proves each statement.
use Rattle.std.specs.Prelude.{ℕ, ◌<◌, ◌≡◌, ◌⊎◌, List, ◌∷◌, ◌++◌, length}
use Rattle.std.proofs.Math.Option.{none, some}
use Rattle.std.proofs.Math.ListN.{get_elem?}
use Rattle.rules.specs.Syntax.{Name, CompiledSchema}
use Rattle.rules.specs.Image.{readable}
use Rattle.rules.specs.Substitute.{lookup, lookup_qualified}

-- name i has this text
pub record Has (schema : CompiledSchema) (i : ℕ) (t : List ℕ) : Type 0 where
  pub name : Name
  pub at : get_elem? schema.names i ≡ some name
  pub text : name.text ≡ t

-- names s and x, with a dot between them, are this text
pub record Join (schema : CompiledSchema) (s x : ℕ) (t : List ℕ) : Type 0 where
  pub namespace : Name
  pub name : Name
  pub at_namespace : get_elem? schema.names s ≡ some namespace
  pub at_name : get_elem? schema.names x ≡ some name
  pub text : namespace.text ++ 46 ∷ name.text ≡ t

-- at most one name of a readable image has a text
abbrev pub OneName : Type 0
OneName = (image : List ℕ) (schema : CompiledSchema) → readable image ≡ some schema → (t : List ℕ) (i j : ℕ) → Has schema i t → Has schema j t → i ≡ j

-- the definition or the Named alias of the name with the joined text, where there is such a name
abbrev pub DefinedAsThatName : Type 0
DefinedAsThatName =
    (image : List ℕ) (schema : CompiledSchema) → readable image ≡ some schema
    → (t : List ℕ) (s x i : ℕ) → Join schema s x t → Has schema i t → lookup_qualified schema s x ≡ lookup schema i

-- nothing, where no name has that text
abbrev pub NoName : Type 0
NoName = (schema : CompiledSchema) (t : List ℕ) (s x : ℕ) → Join schema s x t → ((i : ℕ) → Has schema i t → ⊥) → lookup_qualified schema s x ≡ none

-- nothing, where the text is longer than a name's can be
abbrev pub TooLong : Type 0
TooLong = (image : List ℕ) (schema : CompiledSchema) → readable image ≡ some schema → (t : List ℕ) (s x : ℕ) → Join schema s x t → 255 < length t → lookup_qualified schema s x ≡ none

-- nothing, where a half is no name
abbrev pub NoHalf : Type 0
NoHalf = (schema : CompiledSchema) (s x : ℕ) → (get_elem? schema.names s ≡ none) ⊎ (get_elem? schema.names x ≡ none) → lookup_qualified schema s x ≡ none

-- which dot is meant does not matter: halves that join to one text stand for one thing
abbrev pub TextAlone : Type 0
TextAlone = (schema : CompiledSchema) (t : List ℕ) (s x r y : ℕ) → Join schema s x t → Join schema r y t → lookup_qualified schema s x ≡ lookup_qualified schema r y
