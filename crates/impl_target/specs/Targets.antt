-- The message that an implementation is for.
use Rattle.std.specs.Prelude.{ℕ, Option}
use Rattle.rules.specs.Options.{then}
use Rattle.rules.specs.Project.{as_message}
use Rattle.rules.specs.Substitute.{get, number}
use Rattle.rules.specs.Syntax.{MessageDef, ResolvedType, CompiledSchema}
use Rattle.image_layout.specs.Open.{Open, pool_words}
use Rattle.image_layout.specs.declared.Layout.{Layout}
use Rattle.impl_rows.specs.Found.{Finds}
use Rattle.pool_definitions.specs.DefinitionAt.{MessageStands}
use Rattle.pool_types.specs.TypeAt.{TypeStands}

abbrev pub MessageHere : Layout → MessageDef → ℕ → ℕ → Type 0
MessageHere l = MessageStands l.names.rows (pool_words l)

-- the message that the target is for, or none
abbrev pub FindsTarget : Layout → ℕ → Option ℕ → Type 0
FindsTarget l at r =
    (s : CompiledSchema) → Open l s → (t : ResolvedType) (n : ℕ) → TypeStands l.names.rows (pool_words l) t at n
    → Finds (MessageHere l) (then (number t) (λ d. then (get s d) as_message)) r
