-- What a projection is asked of: a trait's functions with the signatures that they come to, and an implementation's parts.
use Rattle.std.specs.Prelude.{ℕ, ◌≡◌, List, map, length, take}
use Rattle.rules.specs.Syntax.{MessageDef, TraitFnDef, ImplDef}
use Rattle.rules.specs.Refusal.{ok}
use Rattle.rules.specs.Substitute.{done}
use Rattle.rules.specs.Signatures.{PortableSignature, resolve_signature, expected_list}
use Rattle.image_layout.specs.declared.Layout.{Layout}
use Rattle.image_layout.specs.Open.{pool_words}
use Rattle.pool_types.specs.TypeAt.{TypeStands}
use Rattle.message_fields.specs.Fields.{Fields}
use Rattle.expected_signature.specs.Here.{FunctionHere}
use Rattle.expected_functions.specs.Asked as expected
use Rattle.impl_functions.specs.Functions.{FunctionsHere, Placed}
use Rattle.project_functions.specs.declared.parts.Parts.{Parts}

-- the names of a trait's functions, in their order, from the table's start
abbrev pub InOrder : List ℕ → List TraitFnDef → Type 0
InOrder names fs = take (length fs) names ≡ map (λ f. f.name) fs

module _ (l : Layout) where
  -- the implementation's functions, the message's fields and the target type stand from these places on
  pub record Behind (impl : ImplDef) (message : MessageDef) (functions fields target : ℕ) : Type 0 where
    pub functions_end : ℕ
    pub functions_at : FunctionsHere l impl.functions functions functions_end
    pub fields_end : ℕ
    pub fields_at : Fields l.names.rows (pool_words l) message.fields fields fields_end
    pub target_end : ℕ
    pub target_at : TypeStands l.names.rows (pool_words l) impl.target_type target target_end

  -- each of the implementation's functions stands at its place in the table, the message's fields and the target type there
  pub record Stand (places : List ℕ) (p : Parts) (impl : ImplDef) (message : MessageDef) : Type 0 where
    pub functions_at : Placed l impl.functions places
    pub fields_end : ℕ
    pub fields_at : Fields l.names.rows (pool_words l) message.fields p.fields fields_end
    pub target_end : ℕ
    pub target_at : TypeStands l.names.rows (pool_words l) impl.target_type p.target target_end

  -- a trait function, and the signature that it comes to
  pub record One (params : List ℕ) (at : ℕ) : Type 0 where
    pub here : FunctionHere l params at
    pub visits : ℕ
    pub signature : PortableSignature
    pub is : resolve_signature here.schema here.seen here.tree ≡ done visits signature

  -- all of them
  pub record All (params : List ℕ) (at : ℕ) : Type 0 where
    pub here : expected.FunctionsHere l params at
    pub visits : ℕ
    pub signatures : List PortableSignature
    pub is : expected_list here.schema here.seen here.tree ≡ ok (visits, signatures)
