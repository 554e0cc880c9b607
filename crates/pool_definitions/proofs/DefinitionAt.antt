-- Laws: which definition stands where among some words; a `..-end` is the place behind a part.
use Prim.Native.Nat.{ℕ, ◌+◌}
use mathlib.Core.List.{List}
use Rattle.rules.specs.ReadDefinitions.{message, impl_function, implementation}
use Rattle.laws.proofs.Definitions.{message_exact, impl_function_exact, implementation_exact}
use Rattle.image_words.proofs.Gives.{Gives, then, given, word_then, below_then, many_gives, maybe_gives}
use Rattle.image_words.proofs.Stands.{held_gives}
use Rattle.pool_types.specs.TypeAt.{TypeStands}
use Rattle.pool_types.proofs.TypeAt.{type_gives}
use Rattle.pool_types.proofs.ParamAt.{param_gives}
use Rattle.pool_bodies.proofs.StatementAt.{body_gives}
use Rattle.pool_definitions.specs.DefinitionAt.{MessageAt, MessageStands, FunctionAt, FunctionStands, ImplAt, ImplStands}

-- over the number of name rows and the words
module _ (names : ℕ) (ws : List ℕ) where
  pub message_gives : (at : ℕ) → Gives (message names) ws at (λ m n. MessageStands names ws m at n)
  unfolding message
  message_gives at = held_gives (MessageAt names ws) (message_exact names) ws at
      (then (many_gives _ (param_gives names ws (TypeStands names ws) (type_gives names ws)) 256 at) (λ fs n h. given _ (record { fields_at = h })))

-- over the number of string rows besides
module _ (names strings : ℕ) (ws : List ℕ) where
  pub impl_function_gives : (at : ℕ) → Gives (impl_function names strings) ws at (λ f n. FunctionStands names strings ws f at n)
  unfolding impl_function
  impl_function_gives at = held_gives (FunctionAt names strings ws) (impl_function_exact names strings) ws at
      (below_then (λ x i l. then (many_gives _ (param_gives names ws (TypeStands names ws) (type_gives names ws)) 32 (at + 1)) (λ ps m h.
      then (maybe_gives (TypeStands names ws) (type_gives names ws) m) (λ t k r. then (body_gives names strings ws k) (λ b n j.
      given _ (record { name_at = i; name_below = l; params_end = m; params_at = h; return_end = k; return_at = r; body_at = j }))))))

  pub implementation_gives : (at : ℕ) → Gives (implementation names strings) ws at (λ i n. ImplStands names strings ws i at n)
  unfolding implementation
  implementation_gives at = held_gives (ImplAt names strings ws) (implementation_exact names strings) ws at
      (word_then (λ d i. below_then (λ x j l. then (type_gives names ws (at + 1 + 1)) (λ t m h. then (many_gives (TypeStands names ws) (type_gives names ws) 8 m) (λ ts k r.
      then (many_gives (FunctionStands names strings ws) impl_function_gives 64 k) (λ fs n q.
      given _ (record { id_at = i; name_at = j; name_below = l; target_end = m; target_at = h; type_args_end = k; type_args_at = r; functions_at = q })))))))
