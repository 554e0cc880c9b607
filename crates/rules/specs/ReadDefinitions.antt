-- The bodies of definitions in the pool: messages, generic aliases, traits, implementations.
use Rattle.std.specs.Prelude.{ℕ, cond, map, eqb}
use Rattle.rules.specs.Words.{all_different}
use Rattle.rules.specs.Syntax.{ImplFnDef, TraitReturn, TraitFnDef, MessageDef, GenericAliasDef, TraitDef, ImplDef}
use Rattle.rules.specs.Reader.{Reader, ◌>>=◌, give, rule, word, below, many, maybe}
use Rattle.rules.specs.ReadTypes.{name, resolved_type, type_expr, param}
use Rattle.rules.specs.ReadBodies.{body}

-- over the number of name rows
module _ (names : ℕ) where
  unfoldable pub message : Reader MessageDef
  message = do
    fs ← many 256 (param names (resolved_type names))
    give (record { fields = fs })

  unfoldable pub generic_alias : Reader GenericAliasDef
  generic_alias = do
    ps ← many 8 (name names)
    t ← type_expr names
    give (record { type_params = ps; target_type = t })

  -- 0 no return, 1 a resolved type, 2 a type expression
  unfoldable pub trait_return : Reader TraitReturn
  trait_return = do
    c ← below 3
    cond (eqb c 0) (give TraitReturn.no_return)
        (cond (eqb c 1) (resolved_type names >>= λ t. give (TraitReturn.resolved t))
        (type_expr names >>= λ t. give (TraitReturn.expression t)))

  unfoldable pub trait_function : Reader TraitFnDef
  trait_function = do
    n ← name names
    ps ← many 32 (param names (type_expr names))
    t ← trait_return
    give (record { name = n; params = ps; return_type = t })

  -- a trait may not list a function name twice
  unfoldable pub trait : Reader TraitDef
  trait = do
    n ← name names
    ps ← many 8 (name names)
    fs ← many 64 trait_function
    _ ← rule (all_different (map (λ f. f.name) fs))
    give (record { name = n; type_params = ps; functions = fs })

-- over the number of string rows besides
module _ (names strings : ℕ) where
  unfoldable pub impl_function : Reader ImplFnDef
  impl_function = do
    n ← name names
    ps ← many 32 (param names (resolved_type names))
    t ← maybe (resolved_type names)
    b ← body names strings
    give (record { name = n; params = ps; return_type = t; body = b })

  unfoldable pub implementation : Reader ImplDef
  implementation = do
    id ← word
    n ← name names
    t ← resolved_type names
    ts ← many 8 (resolved_type names)
    fs ← many 64 impl_function
    give (record { trait_id = id; trait_name = n; target_type = t; type_args = ts; functions = fs })
