-- A trait and an implementation's type arguments, as the pool holds them.
use Rattle.std.specs.Prelude.{ℕ, List}
use Rattle.rules.specs.Syntax.{TraitDef, ImplDef, CompiledSchema}
use Rattle.rules.specs.Refusal.{Result, ok, ◌>>=◌}
use Rattle.rules.specs.Signatures.{PortableSignature}
use Rattle.rules.specs.Output.{signatures_words}
use Rattle.image_words.specs.Gives.{Counted}
use Rattle.image_layout.specs.declared.Layout.{Layout}
use Rattle.image_layout.specs.Open.{Open, pool_words}
use Rattle.pool_types.specs.TypeAt.{TypeStands}
use Rattle.pool_traits.specs.TraitAt.{TraitFunctionStands, TraitStands}
use Rattle.expected_signature.specs.Here.{Here}

-- visits, and signatures as words
abbrev pub in_words : Result (ℕ × List PortableSignature) → Result (ℕ × List ℕ)
in_words r = r >>= λ p. ok (p.0, signatures_words p.1)

module _ (l : Layout) where
  -- a trait's functions, with type parameters in view
  abbrev pub FunctionsHere : List ℕ → ℕ → Type 0
  FunctionsHere params = Here l params (Counted (pool_words l) 64 (TraitFunctionStands l.names.rows (pool_words l)))

  -- a trait at `start`, and type arguments at `types`
  pub record Asked (start types : ℕ) : Type 0 where
    pub schema : CompiledSchema
    pub opened : Open l schema
    pub trait : TraitDef
    pub trait_end : ℕ
    pub trait_at : TraitStands l.names.rows (pool_words l) trait start trait_end
    pub impl : ImplDef
    pub types_end : ℕ
    pub types_at : Counted (pool_words l) 8 (TypeStands l.names.rows (pool_words l)) impl.type_args types types_end
