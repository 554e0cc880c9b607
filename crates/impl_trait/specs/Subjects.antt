-- What a call is asked of, by the rules and as the pool holds it.
use Rattle.std.specs.Prelude.{ℕ, ◌≡◌, Result, Ok, Err}
use Rattle.rules.specs.Words.{NONE}
use Rattle.rules.specs.Syntax.{TraitDef, ImplDef, CompiledSchema}
use Rattle.rules.specs.Refusal.{Result as Checked, ok, err, ◌>>=◌, with_name}
use Rattle.rules.specs.Signatures.{find_trait}
use Rattle.rules.specs.Project.{find_implementation}
use Rattle.image_words.specs.Gives.{Counted}
use Rattle.image_layout.specs.declared.Layout.{Layout}
use Rattle.image_layout.specs.Open.{Open, pool_words}
use Rattle.pool_types.specs.TypeAt.{TypeStands}
use Rattle.pool_definitions.specs.DefinitionAt.{FunctionStands}
use Rattle.impl_rows.specs.Found.{TraitHere}
use Rattle.impl_trait.specs.declared.Subject.{Subject}
use Rattle.impl_trait.specs.declared.NoSubject.{NoSubject}

-- the implementation and its trait: 3, then 4
unfoldable pub subject : ℕ → CompiledSchema → Checked (ImplDef × TraitDef)
subject row schema = do
  impl ← find_implementation schema row
  trait ← find_trait schema impl
  ok (impl, trait)

-- 3 and 4, and the name beside each
abbrev pub number_of : NoSubject → ℕ
number_of NoSubject.NoImplementation = 3
number_of (NoSubject.NoTrait name) = 4

abbrev pub name_of : NoSubject → ℕ
name_of NoSubject.NoImplementation = NONE
name_of (NoSubject.NoTrait name) = name.0

module _ (l : Layout) where
  -- the trait and the implementation's parts stand from these places on
  pub record Stand (impl : ImplDef) (trait : TraitDef) (r : Subject) : Type 0 where
    pub trait_end : ℕ
    pub trait_at : TraitHere l trait r.start trait_end
    pub target_end : ℕ
    pub target_at : TypeStands l.names.rows (pool_words l) impl.target_type r.target target_end
    pub types_end : ℕ
    pub types_at : Counted (pool_words l) 8 (TypeStands l.names.rows (pool_words l)) impl.type_args r.types types_end
    pub functions_end : ℕ
    pub functions_at : Counted (pool_words l) 64 (FunctionStands l.names.rows l.strings.rows (pool_words l)) impl.functions types_end functions_end

  abbrev pub Agrees : Checked (ImplDef × TraitDef) → Result Subject NoSubject → Type 0
  Agrees (err e) (Ok f) = ⊥
  Agrees (err e) (Err n) = with_name (number_of n) NONE (name_of n) ≡ e
  Agrees (ok p) (Ok f) = Stand p.0 p.1 f
  Agrees (ok p) (Err n) = ⊥

  -- r says what the rules find, and where
  pub record Finds (found : Checked (ImplDef × TraitDef)) (r : Result Subject NoSubject) : Type 0 where
    pub is : Agrees found r

  -- a schema that the image opens, with an implementation and its trait at these places
  pub record About (r : Subject) : Type 0 where
    pub schema : CompiledSchema
    pub opened : Open l schema
    pub impl : ImplDef
    pub trait : TraitDef
    pub stand : Stand impl trait r
